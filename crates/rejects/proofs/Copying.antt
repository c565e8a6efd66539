-- Rows that pass a test, copied one after another to the front of a list. Assumes nothing.
use mathlib.Core.Path.{◌≡◌, refl, sym, ap, ◌∙◌}
use mathlib.Core.Bool.{Bool, true, false}
use mathlib.Core.List.{List, [], ◌∷◌, ◌++◌, map, append-nil}
use Prim.Native.Nat.{ℕ, ◌+◌, ◌≤◌, ◌<◌}
use native.Mathlib.Omega.{arith}
use lib.ListN.{length, take, drop, get_or, set, length-set, length-take, length-map, length-append}
use lib.Seq.{slice, slice_empty}
use Rattle.entry.specs.Entry.{entry_of}
use Rattle.definition.specs.Base.{keep}
use Rattle.definition.specs.Types.{Entry}
use Rattle.definition.specs.Layout.{Row}
use Rattle.definition.proofs.Reorder.{keep_append}
use Rattle.table.proofs.Lists.{slice_snoc, written, written_none, written-drop, written-take, written-more}
use Rattle.rejects.specs.Rejects.{Copied}

pub copied_none : (out : List Row) → Copied [] 0 out out
copied_none out = record { count = refl; entries = refl; later = refl; size = refl }

-- for the same entries
pub copied-same : {es fs : List Entry} {n : ℕ} {out out' : List Row} → fs ≡ es → Copied es n out out' → Copied fs n out out'
copied-same e h = record { count = h.count ∙ ap length (sym e); entries = h.entries ∙ sym e; later = h.later; size = h.size }

pub copied-nothing : {es : List Entry} (out : List Row) → es ≡ [] → Copied es 0 out out
copied-nothing out e = copied-same e (copied_none out)

-- no more than the list has
pub copied-few : (es : List Entry) (n : ℕ) (out out' : List Row) → Copied es n out out' → n ≤ length out
copied-few es n out out' h =
    let e : length (map entry_of (take n out')) ≡ n = ap length h.entries ∙ sym h.count in
    omega (arith, length-map (take n out') entry_of, length-take n out', h.size)

-- n rows of from..i are copied
pub record Copying (q : Row → Bool) (rows : List Row) (from to i n : ℕ) (out₀ out : List Row) : Type 0 where
  pub within : from ≤ i
  pub end : i ≤ to
  pub few : from + n ≤ i
  pub count : length (keep q (slice from i rows)) ≡ n
  pub size : length out ≡ length out₀
  pub list : out ≡ written 0 (keep q (slice from i rows)) n out₀

module _ (q : Row → Bool) (rows : List Row) (from to : ℕ) (out₀ : List Row) where
  pub copy_start : from ≤ to → Copying q rows from to from 0 out₀ out₀
  copy_start h = record {
    within = omega arith;
    end = h;
    few = omega arith;
    count = ap (λ (l : List Row). length (keep q l)) (slice_empty from rows);
    size = refl;
    list = written_none 0 out₀ ∙ ap (λ (l : List Row). written 0 (keep q l) 0 out₀) (sym (slice_empty from rows));
  }

  module _ (i n : ℕ) (out : List Row) (g : Copying q rows from to i n out₀ out) where
    abbrev x : Row
    x = get_or rows i []

    abbrev done : List Row
    done = keep q (slice from i rows)

    sized : 0 + length done ≡ n
    sized = omega (arith, g.count)

    module _ (here : i < to) (b : to ≤ length rows) (room : to ≤ length out₀) where
      longer : keep q (slice from (i + 1) rows) ≡ done ++ keep q (x ∷ [])
      longer = ap (keep q) (slice_snoc from i rows [] g.within (omega arith)) ∙ keep_append q (slice from i rows) (x ∷ [])

      pub copy-hit : q x ≡ true → Copying q rows from to (i + 1) (n + 1) out₀ (set out n x)
      copy-hit t =
          let l : keep q (slice from (i + 1) rows) ≡ done ++ x ∷ [] = longer ∙ rw t in
          record {
            within = omega (arith, g.within);
            end = omega arith;
            few = omega (arith, g.few);
            count = ap length l ∙ length-append done (x ∷ []) ∙ ap (λ (m : ℕ). m + 1) g.count;
            size = length-set out n x ∙ g.size;
            list =
                ap (λ (r : List Row). set r n x) g.list
                ∙ written-more 0 n done out₀ sized x (omega (arith, g.few))
                ∙ ap (λ (r : List Row). written 0 r (n + 1) out₀) (sym l);
          }

      pub copy-miss : q x ≡ false → Copying q rows from to (i + 1) n out₀ out
      copy-miss t =
          let l : keep q (slice from (i + 1) rows) ≡ done = longer ∙ rw t (append-nil done) in
          record {
            within = omega (arith, g.within);
            end = omega arith;
            few = omega (arith, g.few);
            count = ap length l ∙ g.count;
            size = g.size;
            list = g.list ∙ ap (λ (r : List Row). written 0 r n out₀) (sym l);
          }

    pub copy-end : to ≤ i → to ≤ length out₀ → Copied (map entry_of (keep q (slice from to rows))) n out₀ out
    copy-end h room =
        let e : i ≡ to = omega (arith, g.end) in
        let few : n ≤ length out₀ = omega (arith, g.few) in
        copied-same (ap (λ (m : ℕ). map entry_of (keep q (slice from m rows))) (sym e)) (record {
          count = sym (length-map done entry_of ∙ g.count);
          entries = ap (λ (l : List Row). map entry_of (take n l)) g.list ∙ ap (map entry_of) (written-take 0 n done out₀ sized few);
          later = ap (drop n) g.list ∙ written-drop 0 n done out₀ sized n (omega arith) few;
          size = g.size;
        })
