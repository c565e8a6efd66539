-- What a call on lent buffers promises: refused with nothing changed, opened, or done. Assumes nothing.
use mathlib.Core.Path.{◌≡◌, refl, sym, ap, ◌∙◌, subst⁻¹}
use mathlib.Core.Bool.{true, false}
use mathlib.Core.List.{List}
use mathlib.Core.Option.{some}
use Prim.Native.Nat.{ℕ, suc}
use native.Mathlib.Omega.{arith}
use lib.Dec.{eqb}
use lib.ListN.{length}
use Rattle.stats.specs.Counted.{more}
use Rattle.definition.specs.Types.{Dest}
use Rattle.definition.specs.Calls.{short, sound, Call, Result, refused, arguments_ok, own_refusal, perform, used}
use Rattle.definition.specs.Words.{decode, open_words, opened_by}
use Rattle.definition.specs.Layout.{Row, Buffers, each_sub, sub_rows, ids_at, audits_at, rings_formed, tables_strict, view, formed, sound_buffers, lengths_of, buffer_step, lent}
use Rattle.definition.proofs.Tests.{and_both}
use Rattle.state.specs.Answers.{Replied}
use Rattle.state.specs.State.{head_view, loaded, stored_head, with_used_calls}
use Rattle.state.proofs.View.{stored-any, stored-formed, stored_past, stored-length}
use Rattle.state.proofs.Fitting.{not_short}
use Rattle.engine.specs.Called.{outcome, Called}
use Rattle.engine.specs.Performs.{Performs, performed}
use Rattle.engine.specs.Opened.{opened_head}
use Rattle.engine.proofs.Refusing.{done, step-opens, opens-sound, step-refused, step-done, done-sound}
use Rattle.engine.proofs.Ending as Ending

-- nothing has changed
pub refused-called : (k : ℕ) (b : Buffers) (events : List Row) (q : Result) → q ≡ refused (suc k) (view b) → Called q b b events events (outcome (suc k) 0 0)
refused-called k b events q e = subst⁻¹ (λ (q : Result). Called q b b events events (outcome (suc k) 0 0)) e (record {
  refusal = refl;
  answer = refl;
  count = refl;
  sent = refl;
  later = refl;
  shows = refl;
  leaves-sound = λ z. absurd (omega (arith, z));
  kept = λ _. (refl, refl);
  past = record { head-past = refl; subs-past = refl; rows-past = refl; head-length = refl; subs-length = refl; rows-length = refl; events-length = refl };
})

-- a call that is done, where q is what it means
module _ (h : List ℕ) (subs rows events : List Row) (roomy : short (lengths_of (lent h subs rows) (length events)) ≡ false) (s : sound_buffers (lent h subs rows) ≡ true)
    (c : Call) (q : Result) (is : q ≡ done c (view (lent h subs rows))) (z : sound (used (perform (view (lent h subs rows)) c).dest) ≡ true)
    (a : Replied) (subs' rows' events' : List Row) (p : Performs c (loaded h subs) a subs rows events subs' rows' events') (e : a.refusal ≡ 0)
  where
    abbrev b₀ : Buffers
    b₀ = lent h subs rows

    abbrev b' : Buffers
    b' = lent (stored_head (with_used_calls (more a.head.calls_used) a.head) h) subs' rows'

    pub performed-called : Called q b₀ b' events events' (outcome 0 a.answer a.head.events)
    performed-called =
        let l = p.leaves e in
        let f = performed c in
        let r = a.head in
        let few = p.few e in
        subst⁻¹ (λ (q : Result). Called q b₀ b' events events' (outcome 0 a.answer a.head.events)) is (record {
          refusal = refl;
          answer = p.answer e (Ending.ids h subs rows events roomy s) (Ending.rings h subs rows events roomy s) (Ending.as_many h subs rows events roomy s) ∙ ap (λ (t : Dest). (perform t c).answer) (Ending.shown h subs rows events roomy s);
          count = Ending.count h subs rows events roomy s f r subs' rows' events' l few z;
          sent = Ending.sent h subs rows events roomy s f r subs' rows' events' l few z;
          later = l.later;
          shows = Ending.shows h subs rows events roomy s f r subs' rows' events' l few z;
          leaves-sound = λ _. Ending.leaves-sound h subs rows events roomy s f r subs' rows' events' l few z;
          kept = λ n. absurd (n refl);
          past = Ending.past h subs rows events roomy s f r subs' rows' events' l few z;
        })

module _ (h : List ℕ) (subs rows events : List Row) (code : ℕ) (ws : List ℕ) (roomy : short (lengths_of (lent h subs rows) (length events)) ≡ false) where
  abbrev b : Buffers
  b = lent h subs rows

  abbrev q : Result
  q = buffer_step b (length events) code ws

  -- opened
  module _ (zero : eqb code 0 ≡ true) (o : open_words ws ≡ true) where
    abbrev new : Buffers
    new = lent (stored_head (opened_head ws) h) subs rows

    new-shows : view new ≡ opened_by ws
    unfolding head_view opened_head each_sub ids_at audits_at
    new-shows = stored-any subs rows (opened_head ws) h (not_short b (length events) roomy).head

    new-formed : formed new ≡ true
    unfolding opened_head sub_rows rings_formed tables_strict each_sub
    new-formed = stored-formed subs rows (opened_head ws) h (not_short b (length events) roomy).head

    new-sound : sound_buffers new ≡ true
    unfolding sound_buffers
    new-sound = and_both (formed new) (sound (view new)) new-formed (ap sound new-shows ∙ opens-sound b (length events) code ws roomy o)

    pub opened-called : Called q b new events events (outcome 0 0 0)
    opened-called =
        let long = (not_short b (length events) roomy).head in
        subst⁻¹ (λ (q : Result). Called q b new events events (outcome 0 0 0)) (step-opens b (length events) code ws roomy zero o) (record {
          refusal = refl;
          answer = refl;
          count = refl;
          sent = refl;
          later = refl;
          shows = new-shows;
          leaves-sound = λ _. new-sound;
          kept = λ n. absurd (n refl);
          past = record {
            head-past = stored_past (opened_head ws) h long;
            subs-past = refl;
            rows-past = refl;
            head-length = stored-length (opened_head ws) h long;
            subs-length = refl;
            rows-length = refl;
            events-length = refl;
          };
        })

  -- a call that has arguments and is left
  module _ (coded : eqb code 0 ≡ false) (s : sound_buffers b ≡ true) (c : Call) (decoded : decode code ws ≡ some c) (ok : arguments_ok c ≡ true) (left : eqb (view b).calls_used (view b).call_limit ≡ false)
      (a : Replied) (subs' rows' events' : List Row) (p : Performs c (loaded h subs) a subs rows events subs' rows' events')
    where
      own : a.refusal ≡ own_refusal (view b) c
      own = p.refusal (Ending.ids h subs rows events roomy s) (Ending.rings h subs rows events roomy s) (Ending.as_many h subs rows events roomy s) ∙ ap (λ (t : Dest). own_refusal t c) (Ending.shown h subs rows events roomy s)

      pub own-called : (k : ℕ) → a.refusal ≡ suc k → Called q b b events events (outcome (suc k) 0 0)
      own-called k e = refused-called k b events q (step-refused b (length events) code ws roomy coded s c decoded ok k left (sym own ∙ e))

      pub done-called : a.refusal ≡ 0 → Called q b (lent (stored_head (with_used_calls (more a.head.calls_used) a.head) h) subs' rows') events events' (outcome 0 a.answer a.head.events)
      done-called e =
          let own-none : own_refusal (view b) c ≡ 0 = sym own ∙ e in
          performed-called h subs rows events roomy s c q (step-done b (length events) code ws roomy coded s c decoded ok left own-none) (done-sound b (length events) code ws roomy coded s c decoded ok left own-none) a subs' rows' events' p e
