use mathlib.Core.Path.{◌≡◌, refl, sym, ap₂, ◌∙◌}
use mathlib.Core.Bool.{true, false}
use borrow.Author.Tests.{lt-ltb, le-ltb}
use lib.Dec.{ltb}
use lib.ListN.{length}
use Rattle.state.specs.Fits.{Fits}
use Rattle.state.proofs.Fitting.{fits-facts}
use Rattle.engine.specs.Shares.{over_of}
use Rattle.engine.proofs.EntryRefusals.{over_none, refusal-by}
use Rattle.engine.proofs.storing.admit.Goals as goal
use Rattle.engine.proofs.storing.admit.Goals.{Joined-d-lt-SHARE_MOST, Start, then-d-lt-SHARE_MOST+else-over_share, else-d-lt-SHARE_MOST}

facts : (c : Start) → Fits c.args.subs.now c.args.d (length c.args.rows.now) 545
facts c = fits-facts c.args.subs.now c.args.d (length c.args.rows.now) 545 c.requires.fit

within : (c : Joined-d-lt-SHARE_MOST) → let a = c.args in over_of a.e a.d a.subs.now a.rows.now ≡ false
within c =
    let a = c.args in
    elim c.if-d-lt-SHARE_MOST.branch [
      | then-d-lt-SHARE_MOST+else-over_share w ↦ sym w.over_share.ensures ∙ w.if-over_share.false
      | else-d-lt-SHARE_MOST w ↦ over_none a.e a.d a.subs.now a.rows.now w.if-d-lt-SHARE_MOST.false
    ]

pub is_held-requires : goal.is_held-requires
is_held-requires c = c.requires

pub returns-then-is_held : goal.returns-then-is_held
returns-then-is_held c =
    let a = c.args in
    refusal-by a.e a.d a.subs.now a.rows.now true _ _ (facts (goal.at.returns-then-is_held c).Start) (sym c.is_held.ensures ∙ c.if-is_held.true) refl refl

pub over_share-requires : goal.over_share-requires
over_share-requires c = (c.requires.fit, c.if-d-lt-SHARE_MOST.true)

pub returns-then-over_share : goal.returns-then-over_share
returns-then-over_share c =
    let a = c.args in
    refusal-by a.e a.d a.subs.now a.rows.now false true _ (facts (goal.at.returns-then-over_share c).Start) (sym c.is_held.ensures ∙ c.if-is_held.false) (sym c.over_share.ensures ∙ c.if-over_share.true) refl

pub returns-then-free_rows-rows_for : goal.returns-then-free_rows-rows_for
returns-then-free_rows-rows_for c =
    let a = c.args in
    refusal-by a.e a.d a.subs.now a.rows.now false false true (facts (goal.at.returns-then-free_rows-rows_for c).Start) (sym c.is_held.ensures ∙ c.if-is_held.false) (within (goal.at.returns-then-free_rows-rows_for c).Joined-d-lt-SHARE_MOST)
    (ap₂ ltb (sym c.free_rows.ensures) (sym c.rows_for.ensures) ∙ lt-ltb _ _ c.if-free_rows-rows_for.true)

pub returns : goal.returns
returns c =
    let a = c.args in
    refusal-by a.e a.d a.subs.now a.rows.now false false false (facts (goal.at.returns c).Start) (sym c.is_held.ensures ∙ c.if-is_held.false) (within (goal.at.returns c).Joined-d-lt-SHARE_MOST)
    (ap₂ ltb (sym c.free_rows.ensures) (sym c.rows_for.ensures) ∙ le-ltb _ _ c.if-free_rows-rows_for.false)
