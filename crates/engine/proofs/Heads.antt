-- Calls that change the producers and audits in the head's words alone. Assumes nothing.
use mathlib.Core.Path.{◌≡◌, refl, sym, ap, ◌∙◌, subst⁻¹}
use mathlib.Core.Bool.{true, false}
use mathlib.Core.List.{List, [], ◌∷◌, map}
use mathlib.Core.Option.{some}
use Prim.Native.Nat.{ℕ, suc, ◌+◌, ◌≤◌, ◌<◌, ◌^◌}
use native.Mathlib.Omega.{arith}
use borrow.Author.Tests.{leb-true, le-leb}
use lib.Dec.{eqb, leb}
use lib.ListN.{length, take, drop}
use lib.Seq.{drop-drop, get_or-drop}
use Rattle.stats.specs.Counted.{more}
use Rattle.definition.specs.Types.{Dest}
use Rattle.definition.specs.Calls.{short, sound, used, Call, Result, arguments_ok, own_refusal, perform}
use Rattle.definition.specs.Words.{at, decode}
use Rattle.definition.specs.Layout.{Row, Buffers, event_words, sub_rows, ids_at, audits_at, rings_formed, used_rows, view, strict, formed, sound_buffers, lengths_of, buffer_step, lent}
use Rattle.definition.proofs.Tests.{and_left, and_both}
use Rattle.definition.proofs.Thin.{every-all, all-every}
use Rattle.definition.proofs.Sound.{facts}
use Rattle.state.specs.declared.Head.{Head}
use Rattle.state.specs.Answers.{Replied}
use Rattle.state.specs.State.{head_of, head_view, strict_tables, loaded, stored_head, with_used_calls}
use Rattle.state.proofs.View.{loaded-view, settled, settled_same, stored-view, stored-formed, stored_past, stored-length}
use Rattle.state.proofs.Counts.{used-view}
use Rattle.state.proofs.Fitting.{sound-facts}
use Rattle.producers.specs.Producers.{HeadLeft, head_fits, head_dest, PerformsInHead}
use Rattle.producers.proofs.Tables.{counts}
use Rattle.engine.specs.Called.{outcome, Called}
use Rattle.engine.proofs.Refusing.{step-refused, step-done, done-sound}
use Rattle.engine.proofs.Called.{refused-called}
use Rattle.engine.proofs.Ending as Ending

-- the numbers that are loaded from sound buffers fit the head
module _ (h : List ℕ) (subs rows events : List Row) (roomy : short (lengths_of (lent h subs rows) (length events)) ≡ false) (s : sound_buffers (lent h subs rows) ≡ true) where
  counted-numbers : (at 12 h ≤ 32) × (at 13 h ≤ 32) × (at 14 h ≤ 8) × (used_rows (lent h subs rows) ≤ 512) × (rings_formed (at 14 h) (drop 113 h) ≡ true)
  unfolding sound_buffers formed
  counted-numbers =
      let g = every-all (leb (at 12 h) 32 ∷ leb (at 13 h) 32 ∷ leb (at 14 h) 8 ∷ leb (used_rows (lent h subs rows)) 512 ∷ rings_formed (at 14 h) (drop 113 h) ∷ strict (lent h subs rows) ∷ []) (and_left _ _ s) in
      (leb-true _ _ g.0, leb-true _ _ g.1.0, leb-true _ _ g.1.1.0, leb-true _ _ g.1.1.1.0, g.1.1.1.1.0)

  pub loaded-fit : head_fits (length h) (loaded h subs) ≡ true
  unfolding head_of
  loaded-fit =
      ap (head_fits (length h)) (Ending.d-is h subs rows events roomy s)
      ∙ all-every (leb 8347 (length h) ∷ leb (at 13 h) 32 ∷ leb (at 14 h) 8 ∷ []) (le-leb _ _ (Ending.long h subs rows events roomy s).head, (le-leb _ _ counted-numbers.1, (le-leb _ _ counted-numbers.2, tt)))

module _ (h : List ℕ) (subs rows events : List Row) (code : ℕ) (ws : List ℕ) (roomy : short (lengths_of (lent h subs rows) (length events)) ≡ false)
    (coded : eqb code 0 ≡ false) (s : sound_buffers (lent h subs rows) ≡ true) (c : Call) (decoded : decode code ws ≡ some c) (ok : arguments_ok c ≡ true)
    (left : eqb (view (lent h subs rows)).calls_used (view (lent h subs rows)).call_limit ≡ false)
    (a : Replied) (k : List ℕ) (p : PerformsInHead c (loaded h subs) h a k) (past : drop 8345 k ≡ drop 8345 h) (silent : (perform (view (lent h subs rows)) c).events ≡ [])
  where
    abbrev b : Buffers
    b = lent h subs rows

    abbrev d : Head
    d = loaded h subs

    abbrev q : Result
    q = buffer_step b (length events) code ws

    d-is : d ≡ head_of h (used_rows b)
    d-is = Ending.d-is h subs rows events roomy s

    long : 8347 ≤ length h
    long = (Ending.long h subs rows events roomy s).head

    numbers : (at 12 h ≤ 32) × (at 13 h ≤ 32) × (at 14 h ≤ 8) × (used_rows b ≤ 512) × (rings_formed (at 14 h) (drop 113 h) ≡ true)
    numbers = counted-numbers h subs rows events roomy s

    shown : head_dest d h subs rows ≡ view b
    unfolding head_of
    shown = ap (λ (x : Head). head_dest x h subs rows) d-is ∙ loaded-view subs rows h (used_rows b)

    fit : head_fits (length h) d ≡ true
    fit = loaded-fit h subs rows events roomy s

    rings : rings_formed d.audits (drop 113 h) ≡ true
    unfolding head_of
    rings = ap (λ (x : Head). rings_formed x.audits (drop 113 h)) d-is ∙ numbers.4

    own : a.refusal ≡ own_refusal (view b) c
    own = p.refusal rings subs rows ∙ rw fit (ap (λ (t : Dest). own_refusal t c) shown)

    pub own-kept : (n : ℕ) → a.refusal ≡ suc n → k ≡ h
    own-kept n e = ap (λ (x : HeadLeft). x.words) (p.kept (λ z. absurd (omega (arith, z, e))))

    pub own-called : (n : ℕ) → a.refusal ≡ suc n → Called q b b events events (outcome (suc n) 0 0)
    own-called n e = refused-called n b events q (step-refused b (length events) code ws roomy coded s c decoded ok n left (sym own ∙ e))

    module _ (e : a.refusal ≡ 0) where
      own-none : own_refusal (view b) c ≡ 0
      own-none = sym own ∙ e

      z : sound (used (perform (view b) c).dest) ≡ true
      z = done-sound b (length events) code ws roomy coded s c decoded ok left own-none

      abbrev r : Head
      r = a.head

      abbrev last : Head
      last = with_used_calls (more r.calls_used) r

      abbrev b' : Buffers
      b' = lent (stored_head last k) subs rows

      long' : 8347 ≤ length k
      long' = omega (arith, long, p.long)

      -- the other numbers are those that were loaded
      same-consumers : r.consumers ≡ at 12 h
      unfolding head_of
      same-consumers = ap (λ (x : Head). x.consumers) p.others ∙ ap (λ (x : Head). x.consumers) d-is

      same_rows : sub_rows (take r.consumers subs) + (r.reserved + r.waiting) ≡ used_rows b
      unfolding head_of
      same_rows = ap (λ (x : Head). sub_rows (take x.consumers subs) + (x.reserved + x.waiting)) p.others ∙ ap (λ (x : Head). sub_rows (take x.consumers subs) + (x.reserved + x.waiting)) d-is

      same-allowance : r.allowance ≡ at 8345 k
      unfolding head_of
      same-allowance = ap (λ (x : Head). x.allowance) p.others ∙ ap (λ (x : Head). x.allowance) d-is ∙ sym (get_or-drop 8345 h 0 0) ∙ ap (at 0) (sym past) ∙ get_or-drop 8345 k 0 0

      same-share : r.share ≡ at 8346 k
      unfolding head_of
      same-share = ap (λ (x : Head). x.share) p.others ∙ ap (λ (x : Head). x.share) d-is ∙ sym (get_or-drop 8345 h 1 0) ∙ ap (at 1) (sym past) ∙ get_or-drop 8345 k 1 0

      same-strict : strict_tables r subs rows ≡ strict_tables d subs rows
      same-strict = ap (λ (x : Head). strict_tables x subs rows) p.others

      left-dest : head_dest r k subs rows ≡ (perform (view b) c).dest
      left-dest =
          let f = sound-facts b (length events) (Ending.long h subs rows events roomy s) s in
          p.done e rings subs rows (few-consumers f.subs-long) (few-rows f.rows_long) ∙ ap (λ (t : Dest). (perform t c).dest) shown
        where
          few-consumers : 32 ≤ length subs → d.consumers ≤ length subs
          few-consumers m = omega (arith, m, numbers.0, ap (λ (x : Head). x.consumers) p.others, same-consumers)

          few-rows : 512 ≤ length rows → sub_rows (take d.consumers subs) + (d.reserved + d.waiting) ≤ length rows
          few-rows m = omega (arith, m, numbers.3, same_rows, ap (λ (x : Head). sub_rows (take x.consumers subs) + (x.reserved + x.waiting)) p.others)

      few-calls : r.calls_used < 18446744073709551615
      unfolding head_view
      few-calls =
          let y : sound (used (head_dest r k subs rows)) ≡ true = ap (λ (t : Dest). sound (used t)) left-dest ∙ z in
          let t = facts (used (head_dest r k subs rows)) y in
          omega (arith, leb-true (r.calls_used + 1) r.call_limit t.calls, leb-true r.call_limit (2 ^ 40) t.limit-high)

      shows : view b' ≡ used (perform (view b) c).dest
      shows = stored-view subs rows last k long' same-allowance same-share ∙ used-view subs rows (ids_at r.producers (drop 17 k)) (audits_at r.audits (drop 113 k)) r few-calls ∙ ap used left-dest

      is-formed : formed b' ≡ true
      is-formed =
          let f = counts (length k) r (p.fit e) in
          stored-formed subs rows last k long'
          ∙ all-every (leb r.consumers 32 ∷ leb r.producers 32 ∷ leb r.audits 8 ∷ leb (sub_rows (take r.consumers subs) + (r.reserved + r.waiting)) 512 ∷ rings_formed r.audits (drop 96 (settled last k)) ∷ strict_tables r subs rows ∷ [])
          (le-leb r.consumers 32 (omega (arith, same-consumers, numbers.0)), (le-leb _ _ f.producers, (le-leb _ _ f.audits, (le-leb (sub_rows (take r.consumers subs) + (r.reserved + r.waiting)) 512 (omega (arith, same_rows, numbers.3)), (ap (rings_formed r.audits) (ap (drop 96) (settled_same last k same-allowance same-share) ∙ drop-drop 96 17 k) ∙ p.formed e rings, (same-strict ∙ Ending.strict-words h subs rows events roomy s, tt))))))

      is-sound : sound_buffers b' ≡ true
      unfolding sound_buffers
      is-sound = and_both (formed b') (sound (view b')) is-formed (ap sound shows ∙ z)

      pub done-called : Called q b b' events events (outcome 0 a.answer 0)
      done-called = subst⁻¹ (λ (q : Result). Called q b b' events events (outcome 0 a.answer 0)) (step-done b (length events) code ws roomy coded s c decoded ok left own-none) (record {
        refusal = refl;
        answer = p.answer e rings subs rows ∙ ap (λ (t : Dest). (perform t c).answer) shown;
        count = sym (ap length silent);
        sent = sym (ap (map event_words) silent);
        later = refl;
        shows = shows;
        leaves-sound = λ _. is-sound;
        kept = λ n. absurd (n refl);
        past = record {
          head-past = stored_past last k long' ∙ sym (drop-drop 2 8345 k) ∙ ap (drop 2) past ∙ drop-drop 2 8345 h;
          subs-past = refl;
          rows-past = refl;
          head-length = stored-length last k long' ∙ p.long;
          subs-length = refl;
          rows-length = refl;
          events-length = refl;
        };
      })
