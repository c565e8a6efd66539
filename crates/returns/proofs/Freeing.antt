-- The loop over the reserved rows, a turn at a time: those of one consumer return, the others stay. Assumes nothing.
use mathlib.Core.Path.{◌≡◌, refl, sym, ap, ap₂, ◌∙◌, subst}
use mathlib.Core.Bool.{Bool, true, false, not, false≢true}
use mathlib.Core.List.{List, [], ◌∷◌, ◌++◌, append_assoc, append-nil, map, map-append}
use Prim.Native.Nat.{ℕ, suc, ◌+◌, ◌-◌, ◌≤◌, ◌<◌}
use native.Mathlib.Omega.{arith}
use lib.ListN.{length, take, drop, get_or, length-map, drop_of_length-le}
use lib.Seq.{slice, slice-cons, length-slice, length-take-le, take-add, take_all, drop-drop, take_at, drop_at, drop-append-le, take-append-le, take-take}
use Rattle.entry.specs.Entry.{entry_of}
use Rattle.definition.specs.Base.{whether◌then◌else◌, keep, empty, all}
use Rattle.definition.specs.Types.{Id, Entry, Held, Audit, Dest, with_reserved}
use Rattle.definition.specs.Types as Def
use Rattle.definition.specs.Consumer.{redelivered}
use Rattle.definition.specs.Destination.{reinsert, held_by, reserved_of}
use Rattle.definition.specs.Words.{kind_by}
use Rattle.definition.specs.Layout.{Row, held_at, subs_at, sub_rows, entry_strict}
use Rattle.definition.proofs.Lists.{all_append, map-take, map-drop}
use Rattle.consumers.proofs.View.{subs-agree}
use Rattle.consumers.proofs.Strict.{strict-agree, all_first, all_rest}
use Rattle.state.specs.declared.Head.{Head}
use Rattle.state.specs.State as State
use Rattle.state.specs.State.{head_view, strict_tables, first_waiting, first_reserved}
use Rattle.state.specs.Fits.{Fits}
use Rattle.state.specs.Leaves.{silent, Leaves}
use Rattle.returns.specs.Returns.{freed}
use Rattle.returns.specs.Gaps.{gap_dest, cut, waiting_in, around, GapStrict, StrictAround, Open, Moves, Same, Gap}
use Rattle.returns.proofs.Rows.{slice_front, slice-drop}
use Rattle.returns.proofs.Reinsert.{reinsert-none, reinsert-more}
use Rattle.returns.proofs.Moving.{strict-as}
use Rattle.returns.proofs.Gap.{cut-none, head-dest, head-strict, no_gap, gap-leaves, same_rest, same-both, same-own, same-consumers}

-- ---- what the definition says, from the reserved entry m on

abbrev back : List Held → Id → List Entry
back l i = map redelivered (map (λ h. h.entry) (keep (held_by i) l))

abbrev stays : List Held → Id → List Held
stays l i = keep (λ h. not (held_by i h)) l

abbrev pub freeing : ℕ → Id → ℕ → Dest → Dest
freeing now i m t = reinsert now (back (drop m t.reserved) i) (with_reserved (take m t.reserved ++ stays (drop m t.reserved) i) t)

freeing-end : (now : ℕ) (i : Id) (m : ℕ) (t : Dest) → length t.reserved ≤ m → freeing now i m t ≡ t
freeing-end now i m t h =
    let l : List Held = t.reserved in
    let none : drop m l ≡ [] = drop_of_length-le l h in
    ap₂ (λ (x y : List Held). reinsert now (back x i) (with_reserved (y ++ stays x i) t)) none (take_all m l h)
    ∙ reinsert-none now (with_reserved (l ++ []) t)
    ∙ ap (λ (x : List Held). with_reserved x t) (append-nil l)

module _ (now : ℕ) (i : Id) (m : ℕ) (t : Dest) (h : Held) (rest : List Held) (here : drop m t.reserved ≡ h ∷ rest) where
  abbrev l : List Held
  l = t.reserved

  later : drop (m + 1) l ≡ rest
  later = sym (drop-drop 1 m l) ∙ ap (drop 1) here

  freeing-kept : held_by i h ≡ false → freeing now i m t ≡ freeing now i (m + 1) t
  freeing-kept x =
      let more : take (m + 1) l ≡ take m l ++ h ∷ [] = take-add m 1 l ∙ ap (λ (y : List Held). take m l ++ take 1 y) here in
      let one : back (h ∷ rest) i ≡ back rest i = rw x in
      let two : stays (h ∷ rest) i ≡ h ∷ stays rest i = rw x in
      ap (λ (y : List Held). reinsert now (back y i) (with_reserved (take m l ++ stays y i) t)) here
      ∙ ap₂ (λ (y : List Entry) (z : List Held). reinsert now y (with_reserved (take m l ++ z) t)) one two
      ∙ ap (λ (z : List Held). reinsert now (back rest i) (with_reserved z t)) (sym (append_assoc (take m l) (h ∷ []) (stays rest i)))
      ∙ ap₂ (λ (y z : List Held). reinsert now (back y i) (with_reserved (z ++ stays y i) t)) (sym later) (sym more)

  freeing-back : held_by i h ≡ true → m ≤ length l
      → freeing now i m (reinsert now (redelivered h.entry ∷ []) (with_reserved (take m l ++ rest) t)) ≡ freeing now i m t
  unfolding reinsert
  freeing-back x b =
      let e : Entry = redelivered h.entry in
      let a : length (take m l) ≡ m = length-take-le m l b in
      let s : Dest = reinsert now (e ∷ []) (with_reserved (take m l ++ rest) t) in
      let z : List Held = take m l ++ stays rest i in
      let one : back (h ∷ rest) i ≡ e ∷ back rest i = rw x in
      let two : stays (h ∷ rest) i ≡ stays rest i = rw x in
      ap₂ (λ (y w : List Held). reinsert now (back y i) (with_reserved (w ++ stays y i) s)) (drop_at (take m l) rest m a) (take_at (take m l) rest m a)
      ∙ sym (reinsert-more now e (with_reserved z t) (back rest i))
      ∙ ap₂ (λ (y : List Entry) (w : List Held). reinsert now y (with_reserved (take m l ++ w) t)) (sym one) (sym two)
      ∙ ap (λ (y : List Held). reinsert now (back y i) (with_reserved (take m l ++ stays y i) t)) (sym here)

-- where nothing is reserved for it, nothing changes
none-for : (i : Id) (l : List Held) → empty (map (λ h. h.entry) (keep (held_by i) l)) ≡ true → (back l i ≡ []) × (stays l i ≡ l)
none-for i [] e = (refl, refl)
none-for i (h ∷ l) e = go (held_by i h) (none-for i l) e
  where
    go : (b : Bool) → (empty (map (λ x. x.entry) (keep (held_by i) l)) ≡ true → (back l i ≡ []) × (stays l i ≡ l))
        → empty (map (λ x. x.entry) (whether b then h ∷ keep (held_by i) l else keep (held_by i) l)) ≡ true
        → (map redelivered (map (λ x. x.entry) (whether b then h ∷ keep (held_by i) l else keep (held_by i) l)) ≡ []) × ((whether not b then h ∷ stays l i else stays l i) ≡ h ∷ l)
    go true ih t = absurd (false≢true t)
    go false ih t = let r = ih t in (r.0, ap (λ (x : List Held). h ∷ x) r.1)

pub freed-none : (now : ℕ) (i : Id) (t : Dest) → empty (reserved_of i t) ≡ true → freed now i t ≡ t
freed-none now i t e =
    let r = none-for i t.reserved e in
    ap₂ (λ (x : List Entry) (y : List Held). reinsert now x (with_reserved y t)) r.0 r.1 ∙ reinsert-none now t

-- ---- the reserved rows

module _ (d : Head) (subs rows : List Row) (base m : ℕ) (own : sub_rows (take d.consumers subs) ≡ base) (g : Gap (base + m) 0 d subs rows) where
  abbrev first : ℕ
  first = first_waiting d

  sum : sub_rows (take d.consumers subs) + (d.reserved + d.waiting) ≡ d.used
  sum = omega (arith, g.sum)

  fits : d.used ≤ length rows
  fits = omega (arith, g.used, g.long)

  ends : base + d.reserved ≡ first
  ends = omega (arith, own, g.sum)

  -- one of them cut out: the consumers' rows, and the rest
  abbrev low : List Row
  low = cut (base + m) 1 first rows

  abbrev later_rows : List Row
  later_rows = slice (base + m + 1) first rows

  module _ (h : m < d.reserved) where
    low-length : length (take (base + m) rows) ≡ base + m
    low-length = length-take-le (base + m) rows (omega (arith, ends))

    low-front : take base low ≡ take base (take first rows)
    low-front =
        take-append-le base (take (base + m) rows) later_rows (omega (arith, low-length)) ∙ take-take base (base + m) rows (omega arith) ∙ sym (take-take base first rows (omega (arith, ends)))

    low-rest : drop (sub_rows (take d.consumers subs)) low ≡ take m (slice base first rows) ++ later_rows
    low-rest =
        ap (λ (n : ℕ). drop n low) own
        ∙ drop-append-le base (take (base + m) rows) later_rows (omega (arith, low-length))
        ∙ ap (λ (x : List Row). x ++ later_rows) (sym (slice_front m base first rows (omega (arith, ends))))

    reserved-strict : GapStrict d.consumers subs (take first rows) (waiting_in d rows) → StrictAround (base + m) 1 (State.with_reserved_count (d.reserved - 1) d) subs rows
    reserved-strict s =
        let l : List Row = slice base first rows in
        let z : all entry_strict l ≡ true = ap (λ (n : ℕ). all entry_strict (slice n first rows)) (sym own) ∙ s.reserved in
        let e : base + (m + 1) ≡ base + m + 1 = omega arith in
        let y : drop (m + 1) l ≡ later_rows = slice-drop (m + 1) base first rows ∙ ap (λ (n : ℕ). slice n first rows) e in
        record {
          subs = strict-agree (take d.consumers subs) base low (take first rows) (omega (arith, own)) low-front ∙ s.subs;
          reserved = ap (all entry_strict) low-rest ∙ all_append entry_strict (take m l) later_rows (all_first entry_strict m l z) (ap (all entry_strict) (sym y) ∙ all_rest entry_strict (m + 1) l z);
          waits = s.waits;
        }

  module _ (p : List Id) (u : List Audit) where
    abbrev t : Dest
    t = head_view d subs rows p u

    -- they stand from base on
    reserved-are : t.reserved ≡ map held_at (slice base first rows)
    unfolding gap_dest
    reserved-are = ap (λ (x : Dest). x.reserved) (head-dest d subs rows sum fits p u) ∙ ap (λ (n : ℕ). map held_at (slice n first rows)) own

    reserved-length : length t.reserved ≡ d.reserved
    reserved-length = ap length reserved-are ∙ length-map (slice base first rows) held_at ∙ length-slice base first rows (omega arith) ∙ omega (arith, ends)

    reserved-from : drop m t.reserved ≡ map held_at (slice (base + m) first rows)
    reserved-from = ap (drop m) reserved-are ∙ map-drop held_at m (slice base first rows) ∙ ap (map held_at) (slice-drop m base first rows)

    reserved-here : m < d.reserved → drop m t.reserved ≡ held_at (get_or rows (base + m) []) ∷ map held_at (slice (base + m + 1) first rows)
    reserved-here h =
        let e : suc (base + m) ≡ base + m + 1 = omega arith in
        reserved-from ∙ ap (map held_at) (slice-cons (base + m) first rows [] (omega (arith, ends)) (omega arith) ∙ ap (λ (n : ℕ). get_or rows (base + m) [] ∷ slice n first rows) e)

    -- the destination around one of them
    reserved-around : (h : m < d.reserved) → around (base + m) 1 (State.with_reserved_count (d.reserved - 1) d) subs rows p u ≡ with_reserved (take m t.reserved ++ map held_at later_rows) t
    unfolding gap_dest
    reserved-around h =
        let w : List Row = waiting_in d rows in
        let same : subs_at (kind_by d.queue) (take d.consumers subs) low ≡ subs_at (kind_by d.queue) (take d.consumers subs) (take first rows) =
        subs-agree (kind_by d.queue) (take d.consumers subs) base low (take first rows) (omega (arith, own)) (low-front h) in
        let left : map held_at (drop (sub_rows (take d.consumers subs)) low) ≡ take m t.reserved ++ map held_at later_rows =
        ap (map held_at) (low-rest h)
        ∙ map-append held_at (take m (slice base first rows)) later_rows
        ∙ ap (λ (x : List Held). x ++ map held_at later_rows) (sym (ap (take m) reserved-are ∙ map-take held_at m (slice base first rows))) in
        (λ j. Def.with_subs (same j) (with_reserved (left j) (gap_dest d subs (take first rows) w p u)))
        ∙ ap (λ (x : Dest). with_reserved (take m t.reserved ++ map held_at later_rows) x) (sym (head-dest d subs rows sum fits p u))

-- ---- the loop

module _ (now : ℕ) (id : Id) (d₀ : Head) (subs₀ rows₀ : List Row) where
  abbrev base : ℕ
  base = sub_rows (take d₀.consumers subs₀)

  pub record Freeing (i left : ℕ) (d : Head) (subs rows : List Row) : Type 0 where
    pub gap : Gap i 0 d subs rows
    pub same : Same d₀ d subs₀ rows₀ subs rows
    pub from : base ≤ i
    pub to : i + left ≡ base + d.reserved
    pub strict : strict_tables d₀ subs₀ rows₀ ≡ true → StrictAround i 0 d subs rows
    pub said : (p : List Id) (u : List Audit) → freeing now id (i - base) (head_view d subs rows p u) ≡ freed now id (head_view d₀ subs₀ rows₀ p u)

  pub freeing-start : Fits subs₀ d₀ (length rows₀) 545 → Freeing (first_reserved d₀) d₀.reserved d₀ subs₀ rows₀
  freeing-start f =
      let e : first_reserved d₀ ≡ base = omega (arith, f.rows-used) in
      let z : first_reserved d₀ - base ≡ 0 = omega (arith, e) in
      record {
        gap = record { sum = omega (arith, f.rows-used); low = omega (arith, e); consumers = f.consumers; used = f.used; long = f.rows_long; expired = omega (arith, f.expired, f.used) };
        same = same_rest d₀ subs₀ rows₀;
        from = omega (arith, e);
        to = omega (arith, e);
        strict = λ h. strict-as refl (cut-none (first_reserved d₀) (first_waiting d₀) rows₀ (omega arith)) refl (head-strict d₀ subs₀ rows₀ f.rows-used (omega (arith, f.used, f.rows_long)) h);
        said = λ p u. ap (λ (n : ℕ). freeing now id n (head_view d₀ subs₀ rows₀ p u)) z;
      }

  module _ (i left : ℕ) (d : Head) (subs rows : List Row) (g : Freeing i left d subs rows) where
    own : sub_rows (take d.consumers subs) ≡ base
    own = same-own g.same

    sits : base + (i - base) ≡ i
    sits = omega (arith, g.from)

    gap-there : Gap (base + (i - base)) 0 d subs rows
    gap-there = rw sits g.gap

    -- all rows before the waiting ones
    whole : cut i 0 (first_waiting d) rows ≡ take (first_waiting d) rows
    whole = let a = g.gap in cut-none i (first_waiting d) rows (omega (arith, a.low, a.sum))

    pub freeing-leaves : (events : List Row) → left ≤ 0 → Leaves (silent (freed now id)) d₀ d subs₀ rows₀ events subs rows events
    freeing-leaves events h =
        let a = g.gap in
        gap-leaves (freed now id) i d₀ d₀ d subs₀ rows₀ events subs₀ rows₀ subs rows a g.same refl refl refl refl refl refl refl refl refl refl
        (λ p u _.
        no_gap d subs rows (omega (arith, a.sum)) (omega (arith, a.used, a.long)) p u i (omega (arith, a.low, a.sum))
        ∙ sym (freeing-end now id (i - base) (head_view d subs rows p u) (omega (arith, reserved-length d subs rows base (i - base) own gap-there p u, g.to, g.from)))
        ∙ g.said p u)
        g.strict

    pub freeing-most : d₀.events + d₀.used ≤ 512 → d.events + d.used ≤ 512
    freeing-most h = let e : d.events ≡ d₀.events = ap (λ (x : Head). x.events) g.same.head in omega (arith, g.same.used)

    module _ (some : 0 < left) where
      more : i - base < d.reserved
      more = omega (arith, g.to, g.from)

      pub freeing-open : Open i d (length rows)
      freeing-open = let a = g.gap in record { before = omega (arith, a.sum, g.to, own); consumers = a.consumers; used = a.used; long = a.long; expired = a.expired }

      pub freeing-some : 0 < d.reserved
      freeing-some = omega (arith, more)

      -- a row of another consumer
      pub freeing-skip : held_by id (held_at (get_or rows i [])) ≡ false → Freeing (i + 1) (left - 1) d subs rows
      freeing-skip x =
          let a = g.gap in
          let z : i + 1 - base ≡ i - base + 1 = omega (arith, g.from) in
          record {
            gap = record { sum = a.sum; low = omega (arith, g.to, own); consumers = a.consumers; used = a.used; long = a.long; expired = a.expired };
            same = g.same;
            from = omega (arith, g.from);
            to = omega (arith, g.to);
            strict = λ h. strict-as refl (cut-none (i + 1) (first_waiting d) rows (omega (arith, a.sum, g.to, own)) ∙ sym whole) refl (g.strict h);
            said = λ p u.
                ap (λ (n : ℕ). freeing now id n (head_view d subs rows p u)) z
                ∙ sym (freeing-kept now id (i - base) (head_view d subs rows p u) (held_at (get_or rows (base + (i - base)) [])) _ (reserved-here d subs rows base (i - base) own gap-there p u more) (rw sits x))
                ∙ g.said p u;
          }

      -- one of the consumer's
      pub freeing-turn : (r : Head) (subs' rows' : List Row) → held_by id (held_at (get_or rows i [])) ≡ true
          → Moves i (reinsert now (redelivered (entry_of (get_or rows i [])) ∷ [])) (State.with_reserved_count (d.reserved - 1) d) r subs rows subs' rows' → r.reserved ≡ d.reserved - 1
          → Freeing i (left - 1) r subs' rows'
      freeing-turn r subs' rows' x m c =
          let a = g.gap in
          let b : Head = State.with_reserved_count (d.reserved - 1) d in
          let own' : sub_rows (take r.consumers subs') ≡ sub_rows (take d.consumers subs) = same-own m.same in
          let one : Same d r subs rows subs' rows' = record { head = m.same.head; used = m.same.used; own = m.same.own; subs-past = m.same.subs-past; subs-length = m.same.subs-length; rows-past = m.same.rows-past; rows-length = m.same.rows-length } in
          let next : Gap i 0 r subs' rows' = record {
            sum = omega (arith, own', a.sum, m.counts, more);
            low = omega (arith, own', own, g.to, c);
            consumers = omega (arith, same-consumers one, a.consumers);
            used = omega (arith, m.same.used, a.used);
            long = omega (arith, m.same.rows-length, a.long);
            expired = omega (arith, m.expired, a.expired);
          } in
          let row : Row = get_or rows i [] in
          record {
            gap = next;
            same = same-both g.same one;
            from = g.from;
            to = omega (arith, g.to, c);
            strict = λ h.
                let z : StrictAround (base + (i - base)) 1 b subs rows = reserved-strict d subs rows base (i - base) own gap-there more (strict-as refl (sym whole) refl (g.strict h)) in
                m.strict 1 (omega arith) (omega (arith, a.sum, g.to, own)) (omega (arith, a.sum, more)) (subst (λ (n : ℕ). StrictAround n 1 b subs rows) sits z);
            said = λ p u.
                let t : Dest = head_view d subs rows p u in
                let k : ℕ = i - base in
                let z : List Held = map held_at (slice (base + k + 1) (first_waiting d) rows) in
                let round : around i 1 b subs rows p u ≡ with_reserved (take k t.reserved ++ z) t =
                ap (λ (n : ℕ). around n 1 b subs rows p u) (sym sits) ∙ reserved-around d subs rows base k own gap-there p u more in
                let here : drop k t.reserved ≡ held_at row ∷ z = reserved-here d subs rows base k own gap-there p u more ∙ ap (λ (n : ℕ). held_at (get_or rows n []) ∷ z) sits in
                ap (freeing now id k)
                (sym (no_gap r subs' rows' (omega (arith, next.sum)) (omega (arith, next.used, next.long)) p u i (omega (arith, next.low, next.sum)))
                ∙ m.view 1 p u (omega arith) (omega (arith, a.sum, g.to, own)) (omega (arith, a.sum, more))
                ∙ ap (reinsert now (redelivered (entry_of row) ∷ [])) round)
                ∙ freeing-back now id k t (held_at row) z here x (omega (arith, reserved-length d subs rows base k own gap-there p u, more))
                ∙ g.said p u;
          }
