-- The refusal that is an entry's own, by the numbers. Assumes nothing.
use mathlib.Core.Path.{◌≡◌, refl, sym, ap, ap₂, ◌∙◌}
use mathlib.Core.Bool.{Bool, true, false, ◌&&◌}
use mathlib.Core.List.{List, []}
use Prim.Native.Nat.{ℕ, ◌+◌, ◌-◌, ◌≤◌, ◌<◌}
use native.Mathlib.Omega.{arith}
use borrow.Author.Tests.{lt-ltb, le-ltb}
use lib.Dec.{ltb}
use lib.ListN.{length, take, length-take}
use Rattle.words.proofs.Tests.{by-test}
use Rattle.definition.specs.Base.{whether◌then◌else◌, tally, member}
use Rattle.definition.specs.Types.{Id, Entry, Audit}
use Rattle.definition.specs.Calls.{seqs, all_rows, own_rows, rows_from, rows_for, enqueuing, own_refusal}
use Rattle.definition.specs.Layout.{Row}
use Rattle.definition.proofs.Thin.{tally-length}
use Rattle.consumers.specs.Table.{takes_entry}
use Rattle.consumers.proofs.Laws.{tally-subs}
use Rattle.state.specs.declared.Head.{Head}
use Rattle.state.specs.State.{head_view, kind_by}
use Rattle.state.specs.Fits.{Fits}
use Rattle.engine.specs.Storing.{holds, rows_needed, own_refusal_of}
use Rattle.engine.specs.Shares.{held_from, over_of}
use Rattle.engine.proofs.Used.{all-rows-length, all-rows-member}

-- 4, 14, 5 or 0
abbrev pub choice : Bool → Bool → Bool → ℕ
choice held over few = whether held then 4 else whether over then 14 else whether few then 5 else 0

module _ (e : Entry) (d : Head) (subs rows : List Row) where
  needed : (producers : List Id) (audits : List Audit) (b : Bool) → rows_for e (head_view d subs rows producers audits) (kind_by b) ≡ (whether b then 1 else tally (takes_entry e) (take d.consumers subs))
  unfolding head_view
  needed producers audits true = refl
  needed producers audits false = tally-subs (kind_by d.queue) e (take d.consumers subs) rows

  pub needed-least : d.consumers ≤ 32 → rows_needed e d subs ≤ 32
  needed-least h =
      let l : List Row = take d.consumers subs in
      by-test d.queue (λ t. rw t (omega arith)) (λ t. rw t (omega (arith, h, tally-length (takes_entry e) l, length-take d.consumers subs)))

  -- the share, by the numbers
  pub over_none : 512 ≤ d.share → over_of e d subs rows ≡ false
  unfolding head_view
  over_none h = ap (λ (b : Bool). b && ltb d.share (held_from e.producer d subs rows + rows_for e (head_view d subs rows [] []) (kind_by d.queue))) (le-ltb d.share 512 h)

  pub over_by : d.share < 512 → over_of e d subs rows ≡ ltb d.share (held_from e.producer d subs rows + rows_needed e d subs)
  unfolding head_view
  over_by h = ap₂ (λ (b : Bool) (n : ℕ). b && ltb d.share (held_from e.producer d subs rows + n)) (lt-ltb d.share 512 h) (needed [] [] d.queue)

  own_any : (producers : List Id) (audits : List Audit) (b : Bool)
      → rows_from e.producer (own_rows (head_view d subs rows producers audits) (kind_by b)) ≡ rows_from e.producer (own_rows (head_view d subs rows [] []) (kind_by b))
  unfolding head_view
  own_any producers audits true = refl
  own_any producers audits false = refl

  plain : (producers : List Id) (audits : List Audit) (now : ℕ) → own_refusal (head_view d subs rows producers audits) (enqueuing e now)
      ≡ choice (member e.seq (seqs (all_rows (head_view d subs rows [] [])))) (over_of e d subs rows) (ltb (512 - length (all_rows (head_view d subs rows [] []))) (rows_needed e d subs))
  unfolding own_refusal head_view
  plain producers audits now =
      let t = head_view d subs rows producers audits in
      let n = needed producers audits d.queue ∙ sym (needed [] [] d.queue) in
      let o = own_any producers audits d.queue in
      λ j. choice (member e.seq (seqs (all_rows t))) (ltb d.share 512 && ltb d.share (o j + n j)) (ltb (512 - length (all_rows t)) (needed producers audits d.queue j))

  -- no producer, audit or clock is looked at
  pub refusal-any : (producers : List Id) (audits : List Audit) (now : ℕ) → own_refusal (head_view d subs rows producers audits) (enqueuing e now) ≡ own_refusal_of e d subs rows
  refusal-any producers audits now = plain producers audits now ∙ sym (plain [] [] 0)

  -- by the numbers, where they fit
  pub refusal-numbers : (events : ℕ) → Fits subs d (length rows) events
      → own_refusal_of e d subs rows ≡ choice (holds e.seq (take d.used rows)) (over_of e d subs rows) (ltb (512 - d.used) (rows_needed e d subs))
  refusal-numbers events f =
      let m = all-rows-member d subs rows f.rows-used e.seq [] [] in
      let l = all-rows-length d subs rows f.rows-used (omega (arith, f.used, f.rows_long)) [] [] in
      plain [] [] 0 ∙ (λ j. choice (m j) (over_of e d subs rows) (ltb (512 - l j) (rows_needed e d subs)))

  pub refusal-by : (held over few : Bool) → Fits subs d (length rows) 545 → holds e.seq (take d.used rows) ≡ held → over_of e d subs rows ≡ over
      → ltb (512 - d.used) (rows_needed e d subs) ≡ few → choice held over few ≡ own_refusal_of e d subs rows
  refusal-by held over few f p o q = sym (refusal-numbers 545 f ∙ (λ j. choice (p j) (o j) (q j)))
