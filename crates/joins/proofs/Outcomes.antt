-- What each function leaves, by the way that it goes. Assumes nothing.
use mathlib.Core.Path.{◌≡◌, refl, sym, ap, ◌∙◌}
use mathlib.Core.Bool.{Bool, true, false, not, ◌&&◌, ◌||◌}
use mathlib.Core.List.{List, [], ◌++◌}
use Prim.Native.Nat.{ℕ, ◌+◌, ◌-◌, ◌≤◌, ◌<◌, ◌^◌}
use native.Mathlib.Omega.{arith}
use borrow.Author.Tests.{le-leb, lt-leb, leb-false, eqb-true, eq-eqb, ne_eqb}
use lib.Dec.{eqb, leb}
use lib.ListN.{length, take, set}
use lib.Seq.{slice}
use Rattle.stats.specs.Counted.{top, with_expired_by}
use Rattle.definition.specs.Base.{all, tally}
use Rattle.definition.specs.Types.{topic, Id, Audit}
use Rattle.definition.specs.Destination.{joined}
use Rattle.definition.specs.Calls.{joining, own_refusal, snapshot_rows}
use Rattle.definition.specs.Layout.{Row, subs_at, sub_rows, entry_strict}
use Rattle.definition.proofs.Tests.{by-test, if-true, if-false}
use Rattle.definition.proofs.Lists.{all_keep, keep-length, length-nil}
use Rattle.table.specs.Table.{open_gap, compacted}
use Rattle.table.proofs.Laws.{open-length}
use Rattle.table.proofs.Segments.{compacted-length}
use Rattle.consumers.specs.Consumers.{sub_words}
use Rattle.consumers.specs.Table.{position_from}
use Rattle.state.specs.declared.Head.{Head}
use Rattle.state.specs.State.{head_view, kind_by, with_counters, with_used, with_waiting, first_waiting, first_reserved, due_by}
use Rattle.state.specs.Fits.{fits, Fits}
use Rattle.state.specs.Leaves.{silent, Leaves, LeavesIf}
use Rattle.state.proofs.Fitting.{fits-facts}
use Rattle.state.proofs.Leaves.{when-leaves}
use Rattle.joins.specs.declared.SubSpec.{SubSpec}
use Rattle.joins.specs.Joins.{spec_of, new_of, gone_at, shown_by, snapped, snapshot_of, copied_from, is_found, join_refusal, Refused, joins_when, purged_head, browsed_head, purged_rows, gapped_rows, browsed_rows, with_one, joined_head, joined_rows, Browses}
use Rattle.joins.proofs.Snapshots.{ours, kept, waits, rest, rows_are, ours-length, kept-size, waits-length, long, live, shown, gone, left, live-length, gone-few, shown-length, copy-room, browsed-is, browsed-length, browsed-past}
use Rattle.joins.proofs.Refusals.{refusal_is, snapshot-is}
use Rattle.joins.proofs.Entering.{plain-means, browser-means, leaves-entered, entered-fits}

-- ---- browse, step by step

module _ (now selector k : ℕ) (d : Head) (rows : List Row) (fw g fr fw₂ : ℕ) (e : Head) (rows₁ rows₂ : List Row)
    (pf : fw ≡ first_waiting d)
    (pg : g ≡ tally (gone_at now) (slice fw d.used rows))
    (p₁ : rows₁ ≡ compacted (gone_at now) fw d.used rows)
  where
    gone-is : g ≡ tally (gone_at now) (slice (first_waiting d) d.used rows)
    gone-is = pg ∙ ap (λ (n : ℕ). tally (gone_at now) (slice n d.used rows)) pf

    pub few-gone : Browses now selector k d rows → (g ≤ d.waiting) × (g ≤ d.used)
    few-gone b = let q = gone-is in let h = gone-few now selector k d rows b in (omega arith, omega (arith, b.others))

    module _ (pe : e ≡ with_counters (with_expired_by d.stats g) (with_waiting (d.waiting - g) (with_used (d.used - g) d))) where
      head-is : e ≡ purged_head now d rows
      head-is = pe ∙ ap (λ (n : ℕ). with_counters (with_expired_by d.stats n) (with_waiting (d.waiting - n) (with_used (d.used - n) d))) gone-is

      pub used-less : e.used ≤ d.used
      used-less = let q : e.used ≡ d.used - g = ap (λ (x : Head). x.used) pe in omega arith

      rows₁-is : rows₁ ≡ purged_rows now d rows
      rows₁-is = p₁ ∙ ap (λ (n : ℕ). compacted (gone_at now) n d.used rows) pf

      module _ (pr : fr ≡ first_reserved e) (p₂ : rows₂ ≡ open_gap fr k e.used rows₁) (pw : fw₂ ≡ first_waiting (with_used (e.used + k) e)) where
        place_is : fr ≡ first_reserved (purged_head now d rows)
        place_is = pr ∙ ap (λ (x : Head). first_reserved x) head-is

        rows₂-is : rows₂ ≡ gapped_rows now k d rows
        rows₂-is = p₂ ∙ (λ j. open_gap (place_is j) k (head-is j).used (rows₁-is j))

        first-is : fw₂ ≡ first_waiting (browsed_head now k d rows)
        first-is = pw ∙ ap (λ (x : Head). first_waiting (with_used (x.used + k) x)) head-is

        pub copy-fits : Browses now selector k d rows → (fr + tally (shown_by selector) (slice fw₂ (e.used + k) rows₂) ≤ fw₂) × (fw₂ ≤ e.used + k) × (e.used + k ≤ length rows₂)
        copy-fits b =
            let one : (fr + tally (shown_by selector) (slice fw₂ (e.used + k) rows₂) ≤ fw₂) = rw (place_is, first-is, rows₂-is, head-is) (copy-room now selector k d rows b) in
            let two : fw₂ ≡ e.used + k - e.waiting = pw in
            let h : first_waiting d ≤ d.used = omega (arith, b.others) in
            let three : length rows₂ ≡ length rows =
            ap length rows₂-is
            ∙ open-length (first_reserved (purged_head now d rows)) k (purged_head now d rows).used (purged_rows now d rows)
            ∙ compacted-length (gone_at now) (first_waiting d) d.used rows h (omega (arith, b.room)) in
            (one, omega arith, omega (arith, used-less, b.room))

        pub browse-done : (rows₃ : List Row) → rows₃ ≡ copied_from fr fw₂ (e.used + k) selector rows₂
            → (with_used (e.used + k) e ≡ browsed_head now k d rows) × (rows₃ ≡ browsed_rows now selector k d rows)
        browse-done rows₃ p₃ =
            (ap (λ (x : Head). with_used (x.used + k) x) head-is, p₃ ∙ (λ j. copied_from (place_is j) (first-is j) ((head-is j).used + k) selector (rows₂-is j)))

-- ---- admit

module _ (now : ℕ) (p : SubSpec) (k : ℕ) (d e : Head) (rows : List Row) (pe : e ≡ with_one d) where
  pub admit-needs : Browses now p.selector k d rows → Browses now p.selector k e rows
  admit-needs b = rw pe (record { clock = b.clock; others = b.others; room = b.room; few = b.few; taken = b.taken })

  pub admit-browser : p.browser ≡ true → (r : Head) (rows' : List Row) → r ≡ browsed_head now k e rows → rows' ≡ browsed_rows now p.selector k e rows
      → (r ≡ joined_head now p k d rows) × (rows' ≡ joined_rows now p k d rows)
  admit-browser c r rows' q s = (
    q ∙ ap (λ (x : Head). browsed_head now k x rows) pe ∙ sym (if-true (browsed_head now k (with_one d) rows) (with_one d) c),
    s ∙ ap (λ (x : Head). browsed_rows now p.selector k x rows) pe ∙ sym (if-true (browsed_rows now p.selector k d rows) rows c),
  )

  pub admit-plain : p.browser ≡ false → (e ≡ joined_head now p k d rows) × (rows ≡ joined_rows now p k d rows)
  admit-plain c = (pe ∙ sym (if-false (browsed_head now k (with_one d) rows) (with_one d) c), sym (if-false (browsed_rows now p.selector k d rows) rows c))

-- ---- refusal

pub refused-unfit : (b : Bool) (now : ℕ) (p : SubSpec) (d : Head) (subs rows : List Row) → b ≡ false → Refused b now p d subs rows 2
refused-unfit b now p d subs rows h = record { exact = λ ps qs. sym (if-false (own_refusal (head_view d subs rows ps qs) (joining (spec_of p) now)) 2 h) }

module _ (now : ℕ) (p : SubSpec) (d : Head) (subs rows : List Row) (events : ℕ) (f : Fits subs d (length rows) events) where
  pub own-refusal : (ps : List Id) (qs : List Audit) (k : ℕ) → k ≡ snapshot_of (due_by now d) p d rows → own_refusal (head_view d subs rows ps qs) (joining (spec_of p) now) ≡ join_refusal p subs d k
  own-refusal ps qs k e =
      refusal_is d subs rows ps qs (omega (arith, f.subs-long, f.consumers)) f.rows-used (omega (arith, f.rows_long, f.used)) now p
      ∙ ap (join_refusal p subs d) (sym e)

  pub own-snapshot : (k : ℕ) → k ≡ snapshot_of (due_by now d) p d rows → snapshot_rows now (spec_of p) (head_view d subs rows [] []) ≡ k
  own-snapshot k e = snapshot-is d subs rows [] [] (omega (arith, f.subs-long, f.consumers)) f.rows-used (omega (arith, f.rows_long, f.used)) now p ∙ sym e

  pub refused-fit : (b : Bool) → b ≡ true → (k r : ℕ) → k ≡ snapshot_of (due_by now d) p d rows → r ≡ join_refusal p subs d k → Refused b now p d subs rows r
  refused-fit b h k r e q = record { exact = λ ps qs. q ∙ sym (own-refusal ps qs k e) ∙ sym (if-true (own_refusal (head_view d subs rows ps qs) (joining (spec_of p) now)) 2 h) }

-- none refuses: there is room among the consumers
pub few-consumers : (p : SubSpec) (subs : List Row) (d : Head) (k : ℕ) → join_refusal p subs d k ≡ 0 → d.consumers < 32
few-consumers p subs d k h = by-test (is_found (position_from 0 (spec_of p).id (take d.consumers subs)))
    (λ c. let z : ◌≡◌ {A = ℕ} 6 0 = rw c at h in absurd (omega arith))
    (λ c. by-test (leb 32 d.consumers)
    (λ g. let z : ◌≡◌ {A = ℕ} 7 0 = rw (c, g) at h in absurd (omega arith))
    (λ g. leb-false 32 d.consumers g))

-- ---- join

no-queue : (b : Bool) → kind_by b ≡ topic → b ≡ false
no-queue true e = absurd (let z : ◌≡◌ {A = ℕ} 0 1 = cc in omega arith)
no-queue false e = refl

module _ (clock : ℕ) (p : SubSpec) (subs : List Row) (d : Head) (rows events : List Row) where
  -- what entries expire by
  abbrev now : ℕ
  now = due_by clock d

  abbrev test : Bool
  test = joins_when clock p subs d rows (length events)

  pub joins-late : 2 ^ 62 < clock → test ≡ false
  unfolding joins_when
  joins-late h = rw (lt-leb clock (2 ^ 62) h)

  module _ (c : clock ≤ 2 ^ 62) where
    pub joins-unfit : fits subs d (length rows) (length events) ≡ false → test ≡ false
    unfolding joins_when
    joins-unfit h = rw (le-leb clock (2 ^ 62) c, h)

    module _ (t : fits subs d (length rows) (length events) ≡ true) (k : ℕ) (e : k ≡ snapshot_of now p d rows) where
      facts : Fits subs d (length rows) (length events)
      facts = fits-facts subs d (length rows) (length events) t

      joins-by : (x y z : Bool) → eqb (join_refusal p subs d k) 0 ≡ x → (d.queue || eqb d.waiting 0) ≡ y → leb (d.events + (d.used + k)) 512 ≡ z → test ≡ (x && (y && (z && true)))
      unfolding joins_when
      joins-by x y z px py pz =
          (λ j. le-leb clock (2 ^ 62) c j && (t j && (eqb (own-refusal clock p d subs rows (length events) facts [] [] k e j) 0 && ((d.queue || eqb d.waiting 0) && (leb (d.events + (d.used + own-snapshot clock p d subs rows (length events) facts k e j)) 512 && true)))))
          ∙ (λ j. px j && (py j && (pz j && true)))

      pub joins-refused : (join_refusal p subs d k ≡ 0 → ⊥) → test ≡ false
      joins-refused h = joins-by false _ _ (ne_eqb (join_refusal p subs d k) 0 h) refl refl

      module _ (zero : join_refusal p subs d k ≡ 0) where
        pub joins-topic : (d.queue || eqb d.waiting 0) ≡ false → test ≡ false
        joins-topic h = joins-by true false _ (eq-eqb (join_refusal p subs d k) 0 zero) h refl

        module _ (y : (d.queue || eqb d.waiting 0) ≡ true) where
          pub joins-full : 512 < d.events + (d.used + k) → test ≡ false
          joins-full h = joins-by true true false (eq-eqb (join_refusal p subs d k) 0 zero) y (lt-leb (d.events + (d.used + k)) 512 h)

          module _ (room : d.events + (d.used + k) ≤ 512) where
            joins-yes : test ≡ true
            joins-yes = joins-by true true true (eq-eqb (join_refusal p subs d k) 0 zero) y (le-leb (d.events + (d.used + k)) 512 room)

            pub less : d.consumers < 32
            less = few-consumers p subs d k zero

            within : d.used ≤ length rows
            within = omega (arith, facts.used, facts.rows_long)

            others : d.reserved + d.waiting ≤ d.used
            others = omega (arith, facts.rows-used)

            pub join-browses : p.browser ≡ true → Browses now p.selector k d rows
            join-browses q = record {
              clock = omega arith;
              others = others;
              room = omega (arith, room, facts.rows_long);
              few = omega (arith, room);
              taken = e ∙ if-true {b = p.browser} (tally (snapped now p.selector) (slice (first_waiting d) d.used rows)) 0 q;
            }

            ours-size : length (ours d rows others within) ≡ sub_rows (take d.consumers subs)
            ours-size = let n : first_reserved d ≡ sub_rows (take d.consumers subs) = omega (arith, facts.rows-used) in ours-length d rows others within ∙ n

            -- what is left, with what else is promised
            abbrev Done : Head → List Row → List Row → Type 0
            Done r subs' rows' =
                Leaves (silent (joined clock (spec_of p))) d r subs rows events subs' rows' events
                × ((r.events + r.used ≤ 512) × (d.stats.expired + d.waiting ≤ 2 ^ 62 → fits subs' r (length rows) (length events) ≡ true))

            done_plain : p.browser ≡ false → Done (with_one d) (set subs d.consumers (sub_words (new_of p 0))) rows
            done_plain q =
                let a : List Row = ours d rows others within in
                let r : List Row = kept d rows others within in
                let w : List Row = waits d rows others within in
                let z : List Row = rest d rows others within in
                let is : rows ≡ a ++ (r ++ (w ++ z)) = rows_are d rows others within in
                let er : length r ≡ d.reserved = kept-size d rows others within in
                let ew : length w ≡ d.waiting = waits-length d rows others within in
                let eu : sub_rows (take d.consumers subs) + 0 + (d.reserved + d.waiting) ≡ d.used = omega (arith, facts.rows-used) in (
                  leaves-entered clock p d subs rows rows events d.stats.expired 0 d.waiting d.used a [] r w w z z facts less is is ours-size refl er ew ew eu facts.used refl refl (λ t. (refl, t))
                      (λ ps qs. plain-means clock p d (subs_at (kind_by d.queue) (take d.consumers subs) a) ps qs w r q),
                  (
                    facts.sent,
                    λ h. entered-fits clock p d subs rows rows events d.stats.expired 0 d.waiting d.used a [] r w w z z facts less is is ours-size refl er ew ew eu facts.used facts.expired facts.waiting facts.sent,
                  ),
                )

            done-browser : p.browser ≡ true → Done (browsed_head now k (with_one d) rows) (set subs d.consumers (sub_words (new_of p k))) (browsed_rows now p.selector k d rows)
            done-browser q =
                let b : Browses now p.selector k d rows = join-browses q in
                let s : ℕ = p.selector in
                let l : d.used ≤ length rows = long now s k d rows b in
                let a : List Row = ours d rows others l in
                let r : List Row = kept d rows others l in
                let w : List Row = waits d rows others l in
                let z : List Row = rest d rows others l in
                let g : ℕ = gone now s k d rows b in
                let few : g ≤ d.waiting = gone-few now s k d rows b in
                let h : List Row = shown now s k d rows b in
                let v : List Row = live now s k d rows b in
                let x : ℕ = (with_expired_by d.stats g).expired in
                let is : rows ≡ a ++ (r ++ (w ++ z)) = rows_are d rows others l in
                let er : length r ≡ d.reserved = kept-size d rows others l in
                let ew : length w ≡ d.waiting = waits-length d rows others l in
                let eu : sub_rows (take d.consumers subs) + k + (d.reserved + (d.waiting - g)) ≡ d.used - g + k = omega (arith, facts.rows-used) in
                let eh : length h ≡ k = shown-length now s k d rows b in
                let ev : length v ≡ d.waiting - g = live-length now s k d rows b in
                let low : d.used - g + k ≤ 512 = omega (arith, room) in
                let sum : d.events + (d.used - g + k) ≤ 512 = omega (arith, room) in
                let small : d.stats.expired + g ≤ top = omega (arith, facts.expired, facts.waiting) in
                let gone-all : kind_by d.queue ≡ topic → h ≡ [] = λ o.
                let n : d.waiting ≡ 0 = eqb-true d.waiting 0 (sym (ap (λ (m : Bool). m || eqb d.waiting 0) (no-queue d.queue o)) ∙ y) in
                length-nil h (omega (arith, keep-length (shown_by s) v, ev)) in
                let keeps : all entry_strict w ≡ true → (all entry_strict h ≡ true) × (all entry_strict v ≡ true) = λ t.
                let still : all entry_strict v ≡ true = all_keep entry_strict (λ o. not (gone_at now o)) w t in
                (all_keep entry_strict (shown_by s) v still, still) in
                let after : browsed_rows now s k d rows ≡ a ++ (h ++ (r ++ (v ++ left now s k d rows b))) = browsed-is now s k d rows b in (
                  leaves-entered clock p d subs rows (browsed_rows now s k d rows) events x k (d.waiting - g) (d.used - g + k) a h r w v z (left now s k d rows b) facts less is after ours-size eh er ew ev eu low (browsed-past now s k d rows b) (browsed-length now s k d rows b) keeps
                      (λ ps qs. browser-means clock p d (subs_at (kind_by d.queue) (take d.consumers subs) a) ps qs w r k (d.used - g + k) (d.waiting - g) q small gone-all),
                  (
                    sum,
                    λ m. entered-fits clock p d subs rows (browsed_rows now s k d rows) events x k (d.waiting - g) (d.used - g + k) a h r w v z (left now s k d rows b) facts less is after ours-size eh er ew ev eu low (omega arith) (omega (arith, facts.waiting)) sum,
                  ),
                )

            -- one way or the other
            done : (r : Head) (subs' rows' : List Row) → r ≡ joined_head now p k d rows → rows' ≡ joined_rows now p k d rows → subs' ≡ set subs d.consumers (sub_words (new_of p k)) → Done r subs' rows'
            done r subs' rows' pr pw ps = by-test p.browser
                (λ q. rw (pr ∙ if-true (browsed_head now k (with_one d) rows) (with_one d) q, pw ∙ if-true (browsed_rows now p.selector k d rows) rows q, ps) (done-browser q))
                (λ q.
                let n : k ≡ 0 = e ∙ if-false {b = p.browser} (tally (snapped now p.selector) (slice (first_waiting d) d.used rows)) 0 q in
                rw (pr ∙ if-false (browsed_head now k (with_one d) rows) (with_one d) q, pw ∙ if-false (browsed_rows now p.selector k d rows) rows q, ps ∙ ap (λ (m : ℕ). set subs d.consumers (sub_words (new_of p m))) n) (done_plain q))

            pub join-done : (r : Head) (subs' rows' : List Row) → r ≡ joined_head now p k d rows → rows' ≡ joined_rows now p k d rows → subs' ≡ set subs d.consumers (sub_words (new_of p k))
                → LeavesIf test ((r.events + r.used ≤ 512) × (d.stats.expired + d.waiting ≤ 2 ^ 62 → fits subs' r (length rows) (length events) ≡ true)) (silent (joined clock (spec_of p))) d r subs rows events subs' rows' events
            join-done r subs' rows' pr pw ps =
                when-leaves test _ (silent (joined clock (spec_of p))) d r subs rows events subs' rows' events joins-yes (done r subs' rows' pr pw ps)
