-- A call with its account: what the code leaves is what the definition has. Assumes nothing.
use mathlib.Core.Path.{◌≡◌, refl, sym, ap, ap₂, ◌∙◌, subst⁻¹}
use mathlib.Core.Bool.{Bool, true, false, not, ◌||◌}
use mathlib.Core.List.{List, [], ◌++◌}
use Prim.Native.Nat.{ℕ}
use native.Mathlib.Omega.{arith}
use borrow.Author.Tests.{eq-eqb, ne_eqb}
use lib.Dec.{eqb}
use lib.ListN.{length, take}
use Rattle.definition.specs.Base.{whether◌then◌else◌}
use Rattle.definition.specs.Types.{Dest}
use Rattle.definition.specs.Calls.{short, Result}
use Rattle.definition.specs.Queries.{is_queue}
use Rattle.definition.specs.Layout.{Row, Buffers, lengths_of, buffer_step}
use Rattle.definition.proofs.Tests.{by-test, if-true, if-false}
use Rattle.state.specs.declared.Head.{Head}
use Rattle.state.specs.State.{head_view, loaded}
use Rattle.state.proofs.Fitting.{Long, not_short}
use Rattle.calls.specs.declared.Call.{Call}
use Rattle.engine.specs.Called.{outcome, Called}
use Rattle.engine.proofs.Refusing.{step-short}
use Rattle.engine.proofs.Called.{refused-called}
use Rattle.fates.specs.Blocks.{Block, held_blocks, account_of, comes, left_blocks}
use Rattle.report.specs.declared.Noted.{Noted}
use Rattle.report.specs.Report.{lists_short, noted_step, is_accepted, holds_now, leaves_now, list_with, counts_fit, leavers_of, all_leavers, HeldNumbers, AccountKept, NotedCall}
use Rattle.report.proofs.Accounting.{leavers-gone, as_long, long-lists}
use Rattle.report.proofs.Loaded.{sound-counts, kind-is, queue-numbers, holds-are}

abbrev noted : ℕ → ℕ → ℕ → ℕ → ℕ → Noted
noted refusal answer events held left = record { refusal = refusal; answer = answer; events = events; held = held; left = left }

or-false : (x : Bool) → (x || false) ≡ x
or-false true = refl
or-false false = refl

or-true : (x : Bool) → (x || true) ≡ true
or-true true = refl
or-true false = refl

module _ (c : Call) (n : ℕ) (b : Buffers) (events : List Row) (held left : List Block) where
  abbrev q : Result
  q = noted_step b (length events) n (length held) (length left) c

  -- ---- refused
  pub refused-noted : (b' : Buffers) (events' : List Row) (k a e : ℕ) → Called q b b' events events' (outcome k a e) → (k ≡ 0 → ⊥) → NotedCall q c n b b' events events' held held left left (noted k a e n 0)
  refused-noted b' events' k a e called z =
      let no : is_accepted q ≡ false = ne_eqb q.refusal 0 (λ p. z (called.refusal ∙ p)) in
      record {
        called = called;
        held-count = sym (if-false _ n no);
        left-count = sym (if-false _ 0 no);
        holds = sym (if-false _ held no);
        leaves = sym (if-false _ left no);
        held-few = λ p. absurd (z (called.refusal ∙ p));
        left-few = omega arith;
        held-length = refl;
        left-length = refl;
      }

  pub short-noted : lists_short n (length held) (length left) ≡ true → NotedCall q c n b b events events held held left left (noted 1 0 0 n 0)
  unfolding noted_step
  short-noted s = refused-noted b events 1 0 0 (refused-called 0 b events q (if-true _ _ s)) (λ z. absurd (omega (arith, z)))

  -- ---- made
  module _ (s : lists_short n (length held) (length left) ≡ false) where
    q-is : q ≡ buffer_step b (length events) c.code c.words
    unfolding noted_step
    q-is = if-false _ _ s

    module _ (b' : Buffers) (events' : List Row) (k a e : ℕ) (made : Called (buffer_step b (length events) c.code c.words) b b' events events' (outcome k a e)) where
      called : Called q b b' events events' (outcome k a e)
      called = subst⁻¹ (λ (x : Result). Called x b b' events events' (outcome k a e)) q-is made

      pub not_made : (k ≡ 0 → ⊥) → NotedCall q c n b b' events events' held held left left (noted k a e n 0)
      not_made z = refused-noted b' events' k a e called z

      module _ (z : k ≡ 0) (d : Head) (l : d ≡ loaded b'.head b'.subs) where
        taken-on : q.refusal ≡ 0
        taken-on = sym called.refusal ∙ z

        yes : is_accepted q ≡ true
        yes = eq-eqb q.refusal 0 taken-on

        enough : short (lengths_of b (length events)) ≡ false
        enough = by-test (short (lengths_of b (length events)))
            (λ h. absurd (omega (arith, taken-on, ap (λ (x : Result). x.refusal) (q-is ∙ step-short b (length events) c.code c.words h))))
            (λ h. h)

        long : Long b' (length events)
        long =
            let f = not_short b (length events) enough in
            record {
              head = omega (arith, f.head, called.past.head-length);
              subs = omega (arith, f.subs, called.past.subs-length);
              rows = omega (arith, f.rows, called.past.rows-length);
              events = f.events;
            }

        counts : counts_fit b' ≡ true
        counts = sound-counts b' (called.leaves-sound taken-on)

        dest-kind : is_queue q.dest.kind ≡ d.queue
        dest-kind = ap (λ (t : Dest). is_queue t.kind) (sym called.shows) ∙ kind-is b' (length events) long counts d l

        -- a topic
        topic-holds : d.queue ≡ false → holds_now q ≡ []
        unfolding account_of
        topic-holds t = if-false _ [] (dest-kind ∙ t)

        topic-leaves : d.queue ≡ false → leaves_now q c n held ≡ []
        unfolding left_blocks
        topic-leaves t = if-true [] _ (ap (λ (x : Bool). eqb c.code 0 || not x) (dest-kind ∙ t) ∙ or-true (eqb c.code 0))

        pub topic-noted : d.queue ≡ false → NotedCall q c n b b' events events' held held left left (noted k a e 0 0)
        topic-noted t = record {
          called = called;
          held-count = sym (if-true _ n yes ∙ ap length (topic-holds t));
          left-count = sym (if-true _ 0 yes ∙ ap length (topic-leaves t));
          holds = sym (if-true _ held yes ∙ ap (λ (v : List Block). list_with v held) (topic-holds t));
          leaves = sym (if-true _ left yes ∙ ap (λ (v : List Block). list_with v left) (topic-leaves t));
          held-few = λ p. omega arith;
          left-few = omega arith;
          held-length = refl;
          left-length = refl;
        }

        -- a queue
        pub made-numbers : d.queue ≡ true → HeldNumbers d b'.subs b'.rows
        made-numbers t = queue-numbers b' (length events) long counts d l t

        abbrev holds : List Block
        holds = held_blocks (head_view d b'.subs b'.rows [] [])

        holds-is : held_blocks q.dest ≡ holds
        holds-is = ap held_blocks (sym called.shows) ∙ holds-are b' (length events) long counts d l

        queue-holds : d.queue ≡ true → holds_now q ≡ holds
        unfolding account_of
        queue-holds t = if-true _ [] (dest-kind ∙ t) ∙ holds-is

        queue-leaves : d.queue ≡ true → leaves_now q c n held ≡ all_leavers c.code c.words holds (take n held)
        unfolding left_blocks all_leavers
        queue-leaves t =
            let bs = take n held ++ comes c.code c.words in
            ap₂ (λ (x : Bool) (l : List Block). whether x then [] else l)
            (ap (λ (x : Bool). eqb c.code 0 || not x) (dest-kind ∙ t) ∙ or-false (eqb c.code 0))
            (sym (leavers-gone c.code c.words q.dest bs) ∙ ap (λ (l : List Block). leavers_of c.code c.words l bs) holds-is)

        pub queue-noted : d.queue ≡ true → (held' left' : List Block) (h g : ℕ) → AccountKept d b'.subs b'.rows c.code c.words n held held' left left' h g → NotedCall q c n b b' events events' held held' left left' (noted k a e h g)
        queue-noted t held' left' h g r =
            let f = long-lists n (length held) (length left) s in record {
              called = called;
              held-count = r.held-count ∙ sym (if-true _ n yes ∙ ap length (queue-holds t));
              left-count = r.left-count ∙ sym (if-true _ 0 yes ∙ ap length (queue-leaves t));
              holds = r.holds ∙ sym (if-true _ held yes ∙ ap (λ (v : List Block). list_with v held) (queue-holds t));
              leaves = r.leaves ∙ sym (if-true _ left yes ∙ ap (λ (v : List Block). list_with v left) (queue-leaves t));
              held-few = λ p. r.held-few;
              left-few = r.left-few;
              held-length = ap length r.holds ∙ as_long holds held (omega (arith, r.held-count, r.held-few, f.held-long));
              left-length = ap length r.leaves ∙ as_long (all_leavers c.code c.words holds (take n held)) left (omega (arith, r.left-count, r.left-few, f.left-long));
            }
