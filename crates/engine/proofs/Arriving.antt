-- An entry or a consumer that arrives: a call that is refused for its own reasons, or a silent part and the dispatch. Assumes nothing.
use mathlib.Core.Path.{◌≡◌, refl, sym, ap, ◌∙◌, subst⁻¹}
use mathlib.Core.Bool.{Bool, true, false, ◌&&◌, ◌||◌}
use mathlib.Core.List.{List, [], ◌∷◌}
use Prim.Native.Nat.{ℕ, ◌+◌, ◌-◌, ◌<◌, ◌≤◌, ◌^◌}
use native.Mathlib.Omega.{arith}
use borrow.Author.Tests.{le-leb, ltb-false, eq-eqb}
use lib.Dec.{leb, ltb, eqb}
use lib.ListN.{length, take}
use Rattle.entry.specs.Entry.{entry_of, row_of}
use Rattle.definition.specs.Base.{whether◌then◌else◌, is_some}
use Rattle.definition.specs.Types.{Kind, queue, topic, Id, Audit, Entry, Dest}
use Rattle.definition.specs.Destination.{Spec, sub_of, due, dispatch_by, dispatch, stored, fanned_out, enqueue_by, joined, add_sub}
use Rattle.definition.specs.Calls.{Call, enqueuing, joining, arguments_ok, bound, snapshot_rows, own_refusal, perform}
use Rattle.definition.specs.Calls as Calls
use Rattle.definition.specs.Layout.{Row}
use Rattle.definition.proofs.Tests.{by-test, and_both, if-true}
use Rattle.definition.proofs.Thin.{all-every}
use Rattle.definition.proofs.Whole.{Fine, fine_more}
use Rattle.definition.proofs.Reach.{stored-fine, fanned-fine}
use Rattle.definition.proofs.Kept as Kept
use Rattle.state.specs.declared.Head.{Head}
use Rattle.state.specs.Answers.{Replied}
use Rattle.state.specs.State.{head_view, due_by, rows_free, refused_as, done_as}
use Rattle.state.specs.Fits.{fits}
use Rattle.state.specs.Leaves.{silent, both, Leaves, LeavesIf}
use Rattle.state.specs.Ready.{Ready}
use Rattle.state.proofs.Leaves.{leaves-as, leaves-when}
use Rattle.state.proofs.Ready.{Keeps, seen, ready-fits, ready-test}
use Rattle.dispatch.specs.Dispatch.{dispatches, Sent}
use Rattle.joins.specs.declared.SubSpec.{SubSpec}
use Rattle.joins.specs.Joins.{spec_of, Refused, joins_when}
use Rattle.joins.proofs.Refusals.{free-is}
use Rattle.engine.specs.Performs.{performed, Performs}
use Rattle.engine.specs.Requests.{Sends}
use Rattle.engine.specs.Storing.{stored_by, kept, holds, rows_needed, own_refusal_of}
use Rattle.engine.specs.Shares.{over_of}
use Rattle.engine.specs.Arrivals.{Arrives, Arrived}
use Rattle.engine.proofs.Parts.{then-dispatch}
use Rattle.engine.proofs.EntryRefusals.{choice, refusal-numbers, refusal-any}
use Rattle.engine.proofs.Order.{short-fits, ready-standing}

-- ---- a call as a whole

-- its own refusal is k, and its answer is n, whatever the producers and audits
abbrev pub Own : Call → Head → List Row → List Row → ℕ → Type 0
Own c d subs rows k = (producers : List Id) (audits : List Audit) → length producers ≡ d.producers → k ≡ own_refusal (head_view d subs rows producers audits) c

abbrev pub Says : Call → Head → List Row → List Row → ℕ → Type 0
Says c d subs rows n = (producers : List Id) (audits : List Audit) → length producers ≡ d.producers → n ≡ (perform (head_view d subs rows producers audits) c).answer

module _ (c : Call) (d : Head) (subs rows events : List Row) (r : Replied) where
  pub refused-performs : (k : ℕ) → Own c d subs rows k → (k ≡ 0 → ⊥) → r ≡ refused_as k d → Performs c d r subs rows events subs rows events
  refused-performs k o n e = subst⁻¹ (λ (r : Replied). Performs c d r subs rows events subs rows events) e (record {
    refusal = o;
    kept = λ _. record { same_head = refl; same-subs = refl; same_rows = refl; same-events = refl };
    answer = λ z. absurd (n z);
    few = λ z. absurd (n z);
    leaves = λ z. absurd (n z);
  })

  pub done-performs : (n : ℕ) (q : Head) (subs' rows' events' : List Row) → Own c d subs rows 0 → Says c d subs rows n
      → Sends (performed c) d q subs rows events subs' rows' events' → r ≡ done_as n q → Performs c d r subs rows events subs' rows' events'
  done-performs n q subs' rows' events' o s l e = subst⁻¹ (λ (r : Replied). Performs c d r subs rows events subs' rows' events') e (record {
    refusal = o;
    kept = λ z. absurd (z refl);
    answer = λ _. s;
    few = λ _. l.1;
    leaves = λ _. l.0;
  })

-- a silent part, and the dispatch
module _ (d : Head) (subs rows events : List Row) (a : Ready d subs rows events) (clock : ℕ) (late : clock ≤ 2 ^ 62)
    (c : Call) (f : Dest → Dest) (parts : (t : Dest) → both (silent f) (dispatch clock) t ≡ performed c t) (o : Own c d subs rows 0) (s : Says c d subs rows 0)
    (x : ℕ) (few : x ≤ 65536) (k : Keeps x (seen d subs rows events a) (silent f (seen d subs rows events a)))
    (m : Head) (subs' rows' : List Row) (l : Leaves (silent f) d m subs rows events subs' rows' events) (room : m.events + m.used ≤ 512)
    (q : Head) (subs'' rows'' events'' : List Row)
    (p : LeavesIf (dispatches clock subs' m (length rows') (length events)) (Sent m q) (dispatch clock) m q subs' rows' events subs'' rows'' events'')
  where
    pub part-performs : (r : Replied) → r ≡ done_as 0 q → Performs c d r subs rows events subs'' rows'' events''
    part-performs r e =
        let y = then-dispatch d subs rows events a clock late (silent f) m subs' rows' events l room x few k q subs'' rows'' events'' p in
        let z = leaves-as (both (silent f) (dispatch clock)) (performed c) d q subs rows events subs'' rows'' events'' (λ ps us h. parts (head_view d subs rows ps us)) y.0 in
        done-performs c d subs rows events r 0 q subs'' rows'' events'' o s (z, omega (arith, y.1)) e

-- ---- an entry

module _ (now : ℕ) (e : Entry) where
  -- stored by the clock that its entries expire by
  abbrev kept_by : Dest → Dest
  kept_by t = kept (due now t) e t

  -- the kind stays, so that it is dispatched by it
  enqueue-at : (t : Dest) (k : Kind) → t.kind ≡ k → dispatch now (stored_by (due now t) e t k) ≡ enqueue_by now e t k
  unfolding dispatch_by enqueue_by
  enqueue-at t queue h = ap (dispatch_by (due now t) (stored e t)) h
  enqueue-at t topic h = ap (dispatch_by (due now t) (fanned_out (due now t) e t)) h

  pub enqueue-parts : (t : Dest) → both (silent kept_by) (dispatch now) t ≡ performed (enqueuing e now) t
  unfolding perform
  enqueue-parts t = enqueue-at t t.kind refl

  kept_fine : (L U : ℕ) (k : Kind) (N : ℕ) (t : Dest) → Fine L U k N t → Kept.Stores k e t → Fine L U k (N + 1024) (stored_by (due now t) e t k)
  kept_fine L U queue N t g y = fine_more L U queue (N + 1) (N + 1024) (stored e t) (omega arith) (stored-fine L U N e t g y.ok y.fits y.new y.shared)
  kept_fine L U topic N t g y = fanned-fine L U N (due now t) e t g y.ok y.fits y.new y.shared

  pub kept-keeps : (t : Dest) → arguments_ok (enqueuing e now) ≡ true → own_refusal t (enqueuing e now) ≡ 0 → Keeps 1024 t (silent kept_by t)
  kept-keeps t ok own g =
      kept_fine t.call_limit t.calls_used t.kind (bound t.calls_used) t g
      (Kept.stores t.call_limit t.calls_used t.kind (bound t.calls_used) e now t g ok own)

choice-none : (held over few : Bool) → choice held over few ≡ 0 → (held ≡ false) × (over ≡ false) × (few ≡ false)
choice-none true over few z = absurd (omega (arith, z))
choice-none false true few z = absurd (omega (arith, z))
choice-none false false true z = absurd (omega (arith, z))
choice-none false false false z = (refl, refl, refl)

module _ (d : Head) (subs rows events : List Row) (a : Ready d subs rows events) (clock : ℕ) (late : clock ≤ 2 ^ 62)
    (e : Entry) (ok : arguments_ok (enqueuing e clock) ≡ true) (k : ℕ) (is : k ≡ own_refusal_of e d subs rows)
  where
    abbrev storing : Call
    storing = enqueuing e clock

    enqueue-own : Own storing d subs rows k
    enqueue-own ps us h = is ∙ sym (refusal-any e d subs rows ps us clock)

    pub enqueue-refused : (r : Replied) → (k ≡ 0 → ⊥) → r ≡ refused_as k d → Performs storing d r subs rows events subs rows events
    enqueue-refused r n h = refused-performs storing d subs rows events r k enqueue-own n h

    enqueue-says : Says storing d subs rows 0
    unfolding perform
    enqueue-says ps us h = refl

    module _ (zero : k ≡ 0) where
      -- its rows are free: no event was sent yet
      pub enqueue-arrives : entry_of (row_of e 0 0 0) ≡ e → Arrives e d subs rows
      enqueue-arrives row =
          let f = ready-fits d subs rows events a in
          let n : ℕ = rows_needed e d subs in
          let b = choice-none (holds e.seq (take d.used rows)) (over_of e d subs rows) (ltb (512 - d.used) n) (sym (refusal-numbers e d subs rows (length events) f) ∙ sym is ∙ zero) in
          record {
            row = row;
            subs-long = f.subs-long;
            rows_long = f.rows_long;
            consumers = f.consumers;
            room = omega (arith, a.none-sent, f.used, ltb-false (512 - d.used) n b.2);
            expired = f.expired;
            discarded = f.discarded;
            rows-used = f.rows-used;
            absent = b.0;
            order = (ready-standing d subs rows events a).order;
          }

      -- the head's clock is the destination's
      as-due : (at : ℕ) → at ≡ due_by clock d → (ps : List Id) (us : List Audit) → silent (kept at e) (head_view d subs rows ps us) ≡ silent (kept_by clock e) (head_view d subs rows ps us)
      unfolding head_view
      as-due at h ps us = ap (λ (n : ℕ). silent (kept n e) (head_view d subs rows ps us)) h

      module _ (r : Replied) (at : ℕ) (less : at ≡ due_by clock d) (m : Head) (subs' rows' : List Row) (q : Head) (subs'' rows'' events'' : List Row) where
        pub enqueue-done : Arrived (kept at e) d m subs rows subs' rows'
            → LeavesIf (dispatches clock subs' m (length rows') (length events)) (Sent m q) (dispatch clock) m q subs' rows' events subs'' rows'' events''
            → r ≡ done_as 0 q → Performs storing d r subs rows events subs'' rows'' events''
        enqueue-done s p h =
            let l = s events in
            let z = leaves-as (silent (kept at e)) (silent (kept_by clock e)) d m subs rows events subs' rows' events (λ ps us n. as-due at less ps us) l.0 in
            let o : Own storing d subs rows 0 = λ ps us z. sym zero ∙ enqueue-own ps us z in
            part-performs d subs rows events a clock late storing (kept_by clock e) (enqueue-parts clock e) o enqueue-says 1024 (omega arith)
            (kept-keeps clock e (seen d subs rows events a) ok (sym (o a.producers a.audits a.as_many)))
            m subs' rows' z l.1.room q subs'' rows'' events'' p r h

-- ---- a consumer

-- 6, 7, 5 or 0
abbrev verdict : Bool → Bool → Bool → ℕ
verdict there full few = whether there then 6 else whether full then 7 else whether few then 5 else 0

verdict-none : (there full few : Bool) → verdict there full few ≡ 0 → few ≡ false
verdict-none true full few z = absurd (omega (arith, z))
verdict-none false true few z = absurd (omega (arith, z))
verdict-none false false true z = absurd (omega (arith, z))
verdict-none false false false z = refl

module _ (now : ℕ) (p : Spec) where
  pub join-parts : (t : Dest) → both (silent (joined now p)) (dispatch now) t ≡ performed (joining p now) t
  unfolding perform add_sub
  join-parts t = refl

  pub joined_keeps : (t : Dest) → arguments_ok (joining p now) ≡ true → own_refusal t (joining p now) ≡ 0 → Keeps 513 t (silent (joined now p) t)
  joined_keeps t ok own g = Kept.joins t.call_limit t.calls_used t.kind (bound t.calls_used) p now t (omega arith) g ok own

  -- none refuses: the rows of its snapshot are free
  pub snapshot-room : (t : Dest) → own_refusal t (joining p now) ≡ 0 → snapshot_rows now p t ≤ Calls.free_rows t
  unfolding own_refusal
  snapshot-room t z =
      ltb-false (Calls.free_rows t) (snapshot_rows now p t)
      (verdict-none (is_some (sub_of p.id t)) (leb 32 (length t.subs)) (ltb (Calls.free_rows t) (snapshot_rows now p t)) z)

-- nothing waits on a sound topic
none-waits : (d : Head) (subs rows events : List Row) → Ready d subs rows events → (d.queue || eqb d.waiting 0) ≡ true
none-waits d subs rows events a = by-test d.queue (λ q. rw q) (λ q. rw q (eq-eqb d.waiting 0 (omega (arith, (ready-standing d subs rows events a).own q))))

module _ (d : Head) (subs rows events : List Row) (a : Ready d subs rows events) (clock : ℕ) (late : clock ≤ 2 ^ 62)
    (spec : SubSpec) (ok : arguments_ok (joining (spec_of spec) clock) ≡ true)
    (k : ℕ) (is : Refused (fits subs d (length rows) 545 && leb clock (2 ^ 62)) clock spec d subs rows k) (r : Replied)
  where
    abbrev entering : Call
    entering = joining (spec_of spec) clock

    join-exact : (ps : List Id) (us : List Audit) → k ≡ own_refusal (head_view d subs rows ps us) entering
    join-exact ps us =
        is.exact ps us
        ∙ if-true (own_refusal (head_view d subs rows ps us) entering) 2 (and_both (fits subs d (length rows) 545) (leb clock (2 ^ 62)) (short-fits d subs rows events a) (le-leb clock (2 ^ 62) late))

    pub join-refused : (k ≡ 0 → ⊥) → r ≡ refused_as k d → Performs entering d r subs rows events subs rows events
    join-refused n h = refused-performs entering d subs rows events r k (λ ps us z. join-exact ps us) n h

    join-says : Says entering d subs rows 0
    unfolding perform
    join-says ps us h = refl

    module _ (zero : k ≡ 0) where
      none-refuses : (ps : List Id) (us : List Audit) → own_refusal (head_view d subs rows ps us) entering ≡ 0
      none-refuses ps us = sym (join-exact ps us) ∙ zero

      joins-it : joins_when clock spec subs d rows (length events) ≡ true
      unfolding joins_when
      joins-it =
          let f = ready-fits d subs rows events a in
          let n : ℕ = snapshot_rows clock (spec_of spec) (head_view d subs rows [] []) in
          let free : Calls.free_rows (head_view d subs rows [] []) ≡ rows_free d = free-is d subs rows [] [] (omega (arith, f.subs-long, f.consumers)) f.rows-used (omega (arith, f.rows_long, f.used)) in
          let room : n ≤ Calls.free_rows (head_view d subs rows [] []) = snapshot-room clock (spec_of spec) (head_view d subs rows [] []) (none-refuses [] []) in
          all-every
          (leb clock (2 ^ 62)
          ∷ fits subs d (length rows) (length events)
          ∷ eqb (own_refusal (head_view d subs rows [] []) entering) 0
          ∷ (d.queue || eqb d.waiting 0)
          ∷ leb (d.events + (d.used + n)) 512
          ∷ []) (
            le-leb clock (2 ^ 62) late,
            (ready-test d subs rows events a, (eq-eqb (own_refusal (head_view d subs rows [] []) entering) 0 (none-refuses [] []), (none-waits d subs rows events a, (le-leb (d.events + (d.used + n)) 512 (omega (arith, a.none-sent, f.used, room, free)), tt)))),
          )

      module _ (also : Type 0) (m : Head) (subs' rows' : List Row) (q : Head) (subs'' rows'' events'' : List Row) where
        pub join-done : LeavesIf (joins_when clock spec subs d rows (length events)) ((m.events + m.used ≤ 512) × also) (silent (joined clock (spec_of spec))) d m subs rows events subs' rows' events
            → LeavesIf (dispatches clock subs' m (length rows') (length events)) (Sent m q) (dispatch clock) m q subs' rows' events subs'' rows'' events''
            → r ≡ done_as 0 q → Performs entering d r subs rows events subs'' rows'' events''
        join-done s p h =
            let l = leaves-when _ ((m.events + m.used ≤ 512) × also) (silent (joined clock (spec_of spec))) d m subs rows events subs' rows' events joins-it s in
            part-performs d subs rows events a clock late entering (joined clock (spec_of spec)) (join-parts clock (spec_of spec)) (λ ps us z. sym (none-refuses ps us)) join-says 513 (omega arith)
            (joined_keeps clock (spec_of spec) (seen d subs rows events a) ok (none-refuses a.producers a.audits))
            m subs' rows' l.0 l.1.0 q subs'' rows'' events'' p r h
