-- What one consumer holds, swept: the consumer that this leaves, and the rows about its own. Assumes nothing.
use mathlib.Core.Path.{◌≡◌, refl, sym, ap, ap₂, ◌∙◌}
use mathlib.Core.Bool.{Bool, true, false, ◌&&◌}
use mathlib.Core.List.{List, [], map}
use mathlib.Core.Option.{some, none}
use Prim.Native.Nat.{ℕ, ◌+◌, ◌-◌, ◌≤◌}
use native.Mathlib.Omega.{arith}
use lib.ListN.{take, drop}
use lib.Seq.{slice}
use Rattle.entry.specs.Entry.{entry_of}
use Rattle.model.specs.Model.{id_of}
use Rattle.definition.specs.Base.{whether◌then◌else◌}
use Rattle.definition.specs.Types.{Kind, Entry, with_tpending}
use Rattle.definition.specs.Types as Def
use Rattle.definition.specs.Destination as Destination
use Rattle.definition.specs.Destination.{sweep_list}
use Rattle.definition.specs.Layout.{Row, inflight_at, browser_at, tpending_at}
use Rattle.table.proofs.Lists.{slice-take, agree-take, agree-drop}
use Rattle.consumers.specs.declared.Sub.{Sub}
use Rattle.consumers.specs.Consumers.{sub_view, with_held}
use Rattle.state.specs.State.{kind_by}
use Rattle.expiry.specs.declared.Swept.{Swept}
use Rattle.expiry.specs.Sweep.{Listed, sweep_listed, swept, swept_unless, Shorter}
use Rattle.expiry.proofs.Lists.{sweep-none}

-- a consumer by its words, a mark, its rows in flight and the entries that it holds
abbrev sub_with : Kind → Sub → List Row → Bool → List Entry → Def.Sub
sub_with k s f b l = record {
  id = id_of s.conn s.session s.value;
  prefetch = s.prefetch;
  selector = s.selector;
  no_local = s.no_local;
  browser = browser_at k b l;
  finished = s.finished;
  inflight = map inflight_at f;
  freed = s.freed;
  next_dseq = s.next_dseq;
  cursor = s.cursor;
  pull = whether s.pulling then some s.pull else none;
  generation = s.generation;
  tpending = tpending_at k b l;
}

-- what the definition leaves of it, and how many go
abbrev sweeps : ℕ → ℕ → Listed → Def.Sub → Destination.Swept
sweeps most now v t = sweep_list (most - v.gone) now t.tpending

Same : ℕ → ℕ → Kind → Sub → List Row → Bool → Listed → Listed → Type 0
Same most now k s f b v v' =
    let t = sub_with k s f b v.list in
    (sub_with k s f b v'.list ≡ with_tpending (sweeps most now v t).list t) × (v'.gone ≡ v.gone + (sweeps most now v t).gone)

by-mark : (most now : ℕ) (s : Sub) (f : List Row) (v v' : Listed) (q b : Bool) → v' ≡ swept_unless (q && b) most now v → Same most now (kind_by q) s f b v v'
unfolding Same swept
by-mark most now s f v v' true true e =
    let t = sub_with (kind_by true) s f true v.list in
    let z : sweep_list (most - v.gone) now [] ≡ record { list = []; gone = 0 } = sweep-none (most - v.gone) now [] refl in
    let n : v.gone ≡ v.gone + 0 = omega arith in
    ((λ j. sub_with (kind_by true) s f true (e j).list) ∙ (λ j. with_tpending (sym z j).list t), (λ j. (e j).gone) ∙ n ∙ (λ j. v.gone + (sym z j).gone))
by-mark most now s f v v' true false e = ((λ j. sub_with (kind_by true) s f false (e j).list), (λ j. (e j).gone))
by-mark most now s f v v' false true e = ((λ j. sub_with (kind_by false) s f true (e j).list), (λ j. (e j).gone))
by-mark most now s f v v' false false e = ((λ j. sub_with (kind_by false) s f false (e j).list), (λ j. (e j).gone))

-- its rows begin at base
module _ (most now base : ℕ) (q : Bool) (s : Sub) (w r : Swept) (rows rows' : List Row)
    (length-is : w.length ≡ s.held)
    (within : base + s.inflight + s.held ≤ w.used)
    (short : Shorter most w r)
    (said : sweep_listed (base + s.inflight) r rows' ≡ swept_unless (q && s.browser) most now (sweep_listed (base + s.inflight) w rows))
  where
    abbrev k : Kind
    k = kind_by q

    abbrev from : ℕ
    from = base + s.inflight

    abbrev flying : List Row
    flying = take s.inflight (drop base rows)

    abbrev old : Def.Sub
    old = sub_view k s flying (take s.held (drop from rows))

    low_of : (v v' : Listed) (b : Bool) → v' ≡ swept_unless b most now v → (v'.before ≡ v.before) × (v'.after ≡ v.after)
    unfolding swept
    low_of v v' true e = ((λ j. (e j).before), (λ j. (e j).after))
    low_of v v' false e = ((λ j. (e j).before), (λ j. (e j).after))

    before_same : take from rows' ≡ take from rows
    unfolding sweep_listed
    before_same = (low_of (sweep_listed from w rows) (sweep_listed from r rows') (q && s.browser) said).0

    pub low : take base rows' ≡ take base rows
    low = agree-take base from rows' rows before_same (omega arith)

    pub flying-same : take s.inflight (drop base rows') ≡ flying
    flying-same =
        let n : from - base ≡ s.inflight = omega arith in
        ap (λ (x : ℕ). take x (drop base rows')) (sym n) ∙ agree-drop base from rows' rows before_same (omega arith) ∙ ap (λ (x : ℕ). take x (drop base rows)) n

    -- the list's rows
    pub list-is : (n : ℕ) (l : List Row) → slice from (from + n) l ≡ take n (drop from l)
    list-is n l = let e : from + n - from ≡ n = omega arith in slice-take from (from + n) l (omega arith) ∙ ap (λ (x : ℕ). take x (drop from l)) e

    -- the rows after its own are as they were
    pub high : take (w.used - (from + s.held)) (drop (from + r.length) rows') ≡ take (w.used - (from + s.held)) (drop (from + s.held) rows)
    unfolding sweep_listed
    high =
        let a : r.used - (from + r.length) ≡ w.used - (from + s.held) = omega (arith, short.tail) in
        let b : slice (from + r.length) r.used rows' ≡ slice (from + w.length) w.used rows = (low_of (sweep_listed from w rows) (sweep_listed from r rows') (q && s.browser) said).1 in
        ap (λ (x : ℕ). take x (drop (from + r.length) rows')) (sym a)
        ∙ sym (slice-take (from + r.length) r.used rows' (omega (arith, short.tail)))
        ∙ b
        ∙ slice-take (from + w.length) w.used rows (omega arith)
        ∙ ap (λ (x : ℕ). take (w.used - (from + x)) (drop (from + x) rows)) length-is

    -- the entries that it holds, as the definition has them
    abbrev x : Destination.Swept
    x = sweep_list (most - w.gone) now old.tpending

    both : (sub_view k (with_held r.length s) (take s.inflight (drop base rows')) (take r.length (drop from rows')) ≡ with_tpending x.list old) × (r.gone ≡ w.gone + x.gone)
    unfolding sub_view sweep_listed Same
    both =
        let v : Listed = sweep_listed from w rows in
        let v' : Listed = sweep_listed from r rows' in
        let one : v.list ≡ map entry_of (take s.held (drop from rows)) = ap (map entry_of) (list-is w.length rows ∙ ap (λ (n : ℕ). take n (drop from rows)) length-is) in
        let two : v'.list ≡ map entry_of (take r.length (drop from rows')) = ap (map entry_of) (list-is r.length rows') in
        let m = by-mark most now s flying v v' q s.browser said in
        let t : List Entry → Def.Sub = λ l. sub_with k s flying s.browser l in (
          ap₂ (λ (f : List Row) (l : List Entry). sub_with k s f s.browser l) flying-same (sym two)
              ∙ m.0
              ∙ ap (λ (l : List Entry). with_tpending (sweep_list (most - w.gone) now (t l).tpending).list (t l)) one,
          m.1 ∙ ap (λ (l : List Entry). w.gone + (sweep_list (most - w.gone) now (t l).tpending).gone) one,
        )

    pub sub-left : sub_view k (with_held r.length s) (take s.inflight (drop base rows')) (take r.length (drop from rows')) ≡ with_tpending x.list old
    sub-left = both.0

    pub gone-left : r.gone ≡ w.gone + x.gone
    gone-left = both.1
