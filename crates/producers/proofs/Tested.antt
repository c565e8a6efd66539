-- `is_duplicate` by its tests: each case is what the definitions' call leaves. Assumes nothing.
use mathlib.Core.Path.{◌≡◌, refl, sym, ap, ap₂, ◌∙◌, subst}
use mathlib.Core.Bool.{Bool, true, false, not, ◌&&◌, true≢false}
use mathlib.Core.List.{List, [], ◌∷◌, ◌++◌}
use mathlib.Core.Option.{Option, none, some}
use Prim.Native.Nat.{ℕ, ◌+◌, ◌*◌, ◌≤◌, ◌<◌}
use native.Mathlib.Omega.{arith}
use borrow.Author.Tests.{lt-ltb, le-ltb, le-leb, leb-false}
use lib.Dec.{eqb, leb}
use lib.ListN.{length, take, drop, set, length-drop}
use lib.Seq.{length-take-le, drop-drop, drop_at, set_at}
use mir.Syntax.{w64}
use mir.Val.{SFits, bool_byte}
use Rattle.words.specs.Pick.{whether◌then◌else◌}
use Rattle.audit.specs.Audit.{seen, recorded, order_of, ring_sound}
use Rattle.audit.proofs.Ring.{order-new}
use Rattle.model.specs.declared.Id.{Id}
use Rattle.model.proofs.Ids.{same_id_lem}
use Rattle.definition.specs.Base.{find, put, is_some}
use Rattle.definition.specs.Types.{Audit, Dest}
use Rattle.definition.specs.Destination.{Answer, audit_of, test_at, is_duplicate}
use Rattle.definition.specs.Calls.{testing, own_refusal, perform}
use Rattle.definition.specs.Layout.{Row, id_at, ids_at, ring_at, audits_at, rings_formed}
use Rattle.definition.proofs.Tests.{by-test, and_both}
use Rattle.definition.proofs.Lists.{find-passes, put-found}
use Rattle.definition.proofs.Thin.{all-every}
use Rattle.definition.proofs.Stored.{audits-length}
use Rattle.state.specs.declared.Head.{Head}
use Rattle.state.specs.State.{head_view, with_audit_count, refused_as, done_as}
use Rattle.producers.specs.Groups.{has_id, first_of, written_from, new_words}
use Rattle.producers.specs.Producers.{head_fits, HeadLeft, checked_at, tested, head_dest, PerformsInHead, Promised}
use Rattle.producers.proofs.Words.{over-length, over-from}
use Rattle.producers.proofs.Groups.{elems, oks, elems-before, oks-before, elems-more, oks-more, found, not_found, put_first}
use Rattle.producers.proofs.Tables.{counts, audit_at, ring_ok, audits-elems, rings-oks, audit-local, ring-same}
use Rattle.producers.proofs.Promises.{refused-performs, unfit-performs}
use Rattle.producers.proofs.Adding.{ids-kept, id-back}
use Rattle.producers.proofs.Testing.{oks-at, place, here, ring, words, step, after, order, order_is, value, refused-ring, checked-is, checked-long, checked-audits, checked-formed, checked-ids, duplicate-is, order-seen, order-new-is}

-- ---- the definitions' call

module _ (i : Id) (q : ℕ) (t : Dest) (c : eqb i.conn 0 ≡ false) where
  tested-by : (o : Option Audit) → find (audit_of i) t.audits ≡ o → perform t (testing i q) ≡ test_at i q t o
  unfolding perform is_duplicate
  tested-by o f = rw (c, f)

  own : (o : Option Audit) → find (audit_of i) t.audits ≡ o → own_refusal t (testing i q) ≡ (whether not (is_some o) && leb 8 (length t.audits) then 8 else 0)
  unfolding own_refusal
  own o f = rw (c, f)

module _ (i : Id) (q : ℕ) (d : Head) (h : List ℕ) where
  abbrev n : ℕ
  n = d.audits

  abbrev l : List ℕ
  l = drop 113 h

  abbrev first : ℕ
  first = first_of (has_id i) 1029 n l

  pub tested-unfit : head_fits (length h) d ≡ false → Promised (testing i q) (tested i q d h) d h (refused_as 2 d) h
  unfolding tested
  tested-unfit f = record { exact = rw f; performs = unfit-performs (testing i q) d h f }

  module _ (f : head_fits (length h) d ≡ true) where
    -- connection 0
    pub tested-nobody : eqb i.conn 0 ≡ true → Promised (testing i q) (tested i q d h) d h (done_as 0 d) h
    unfolding tested perform own_refusal head_view
    tested-nobody c = record {
      exact = rw (f, c);
      performs = record {
        long = refl;
        others = refl;
        kept = λ z. absurd (z refl);
        refusal = λ _ subs rows. rw (f, c);
        fit = λ _. f;
        formed = λ _ o. o;
        answer = λ _ _ subs rows. rw c;
        done = λ _ _ subs rows _ _. rw c;
      };
    }

    module _ (c : eqb i.conn 0 ≡ false) where
      -- ---- the producer has an audit

      module _ (b : first < n) where
        few : n ≤ 8
        few = (counts (length h) d f).audits

        long : 8347 ≤ length h
        long = (counts (length h) d f).long

        abbrev spot : List ℕ
        spot = here first n q h b few long

        abbrev audit : Audit
        audit = audit_at spot

        find-is : find (audit_of i) (audits_at n l) ≡ some audit
        find-is = ap (find (audit_of i)) (audits-elems n l) ∙ found audit_at ring_ok 1029 (audit_of i) n l b

        is-own : id_at spot ≡ i
        is-own = same_id_lem (id_at spot) i (find-passes (audit_of i) (audits_at n l) audit find-is)

        pub tested_at : tested i q d h ≡ checked_at first q d h
        unfolding tested
        tested_at = rw (f, c, lt-ltb first n b)

        own-none : (subs rows : List Row) → 0 ≡ (whether head_fits (length h) d then own_refusal (head_dest d h subs rows) (testing i q) else 2)
        unfolding head_view
        own-none subs rows = rw f (sym (own i q (head_dest d h subs rows) c (some audit) find-is))

        module _ (o : ring_sound (ring first n q h b few long) ≡ true) where
          abbrev numbers : List ℕ
          numbers = order first n q h b few long o

          abbrev dup : Bool
          dup = (step first n q h b few long).checked.duplicate

          abbrev exit : List ℕ
          exit = written_from (place first n q h b few long + 3) (after first n q h b few long o) h

          audits-put : rings_formed n l ≡ true → audits_at n (drop 113 exit) ≡ put (audit_of i) (value first n q h b few long o) (audits_at n l)
          audits-put r =
              checked-audits first n q h b few long o (sym (rings-oks n l) ∙ r)
              ∙ ap (λ (x : List Audit). set x first (value first n q h b few long o)) (audits-elems n l)
              ∙ sym (put_first audit_at ring_ok 1029 (audit_of i) n l (value first n q h b few long o) b)
              ∙ ap (put (audit_of i) (value first n q h b few long o)) (sym (audits-elems n l))

          seen-is : seen q audit.order ≡ seen q numbers
          seen-is = ap (seen q) (order_is first n q h b few long o)

          leaves : rings_formed n l ≡ true → (subs rows : List Row)
              → (bool_byte dup ≡ (test_at i q (head_dest d h subs rows) (some audit)).answer) × (head_dest d exit subs rows ≡ (test_at i q (head_dest d h subs rows) (some audit)).dest)
          unfolding test_at head_view
          leaves r subs rows = by-test (seen q numbers)
              (λ e.
              let s : seen q audit.order ≡ true = seen-is ∙ e in
              let v : value first n q h b few long o ≡ audit = ap (λ (x : List ℕ). record { producer = id_at spot; order = x }) (order-seen first n q h b few long o e ∙ sym (order_is first n q h b few long o)) in
              let a : audits_at n (drop 113 exit) ≡ audits_at n l = audits-put r ∙ ap (λ (x : Audit). put (audit_of i) x (audits_at n l)) v ∙ put-found (audit_of i) (audits_at n l) audit find-is in
              rw s (ap bool_byte (duplicate-is first n q h b few long o ∙ e), ap₂ (λ (x : List Id) (y : List Audit). head_view d subs rows x y) (checked-ids first n q h b few long o d.producers (counts (length h) d f).producers) a))
              (λ e.
              let s : seen q audit.order ≡ false = seen-is ∙ e in
              let v : value first n q h b few long o ≡ record { producer = i; order = recorded q audit.order } =
              ap₂ (λ (y : Id) (x : List ℕ). record { producer = y; order = x }) is-own (order-new-is first n q h b few long o e ∙ ap (recorded q) (sym (order_is first n q h b few long o))) in
              let a : audits_at n (drop 113 exit) ≡ put (audit_of i) (record { producer = i; order = recorded q audit.order }) (audits_at n l) = audits-put r ∙ ap (λ (x : Audit). put (audit_of i) x (audits_at n l)) v in
              rw s (ap bool_byte (duplicate-is first n q h b few long o ∙ e), ap₂ (λ (x : List Id) (y : List Audit). head_view d subs rows x y) (checked-ids first n q h b few long o d.producers (counts (length h) d f).producers) a))

          ok-performs : PerformsInHead (testing i q) d h (done_as (bool_byte dup) d) exit
          unfolding head_view
          ok-performs =
              let same : length exit ≡ length h = checked-long first n q h b few long o in
              record {
                long = same;
                others = refl;
                kept = λ z. absurd (z refl);
                refusal = λ _ subs rows. own-none subs rows;
                fit = λ _. ap (λ (m : ℕ). head_fits m d) same ∙ f;
                formed = λ _ r. checked-formed first n q h b few long o (sym (rings-oks n l) ∙ r);
                answer = λ _ r subs rows. (leaves r subs rows).0 ∙ sym (ap (λ (a : Answer). a.answer) (tested-by i q (head_dest d h subs rows) c (some audit) find-is));
                done = λ _ r subs rows _ _. (leaves r subs rows).1 ∙ sym (ap (λ (a : Answer). a.dest) (tested-by i q (head_dest d h subs rows) c (some audit) find-is));
              }

        pub found-performs : PerformsInHead (testing i q) d h (checked_at first q d h).result (checked_at first q d h).words
        found-performs = by-test (ring_sound (ring first n q h b few long))
            (λ o. subst (λ (x : HeadLeft). PerformsInHead (testing i q) d h x.result x.words) (sym (checked-is first n q h b few long o d)) (ok-performs o))
            (λ o.
            subst (λ (x : HeadLeft). PerformsInHead (testing i q) d h x.result x.words) (sym (refused-ring first n q h b few long d o))
            (refused-performs (testing i q) d h 2 (λ z. omega arith) (λ r subs rows. absurd (true≢false (sym (formed-ok r) ∙ o)))))
          where
            formed-ok : rings_formed n l ≡ true → ring_sound (ring first n q h b few long) ≡ true
            formed-ok r = ap ring_ok (sym (drop-drop (first * 1029) 113 h)) ∙ oks-at first n l b (sym (rings-oks n l) ∙ r)

      -- ---- it has none

      module _ (b : n ≤ first) where
        missing : find (audit_of i) (audits_at n l) ≡ none
        missing = ap (find (audit_of i)) (audits-elems n l) ∙ not_found audit_at ring_ok 1029 (audit_of i) n l b

        own-missing : (subs rows : List Row) → own_refusal (head_dest d h subs rows) (testing i q) ≡ (whether leb 8 n then 8 else 0)
        unfolding head_view
        own-missing subs rows = own i q (head_dest d h subs rows) c none missing ∙ ap (λ (m : ℕ). whether leb 8 m then 8 else 0) (audits-length n l)

        pub tested-full : leb 8 n ≡ true → Promised (testing i q) (tested i q d h) d h (refused_as 8 d) h
        unfolding tested
        tested-full u = record {
          exact = rw (f, c, le-ltb first n b, u);
          performs = refused-performs (testing i q) d h 8 (λ z. omega arith) (λ _ subs rows. rw f (sym (own-missing subs rows ∙ rw u)));
        }

        module _ (s : SFits w64 i.session) (v : SFits w64 i.value) (u : leb 8 n ≡ false) where
          abbrev spot' : ℕ
          spot' = 113 + n * 1029

          abbrev h₁ : List ℕ
          h₁ = written_from spot' (new_words i) h

          abbrev d₁ : Head
          d₁ = with_audit_count (n + 1) d

          abbrev rest : List ℕ
          rest = new_words i ++ drop (spot' + 5) h

          room : n < 8
          room = leb-false 8 n u

          end' : spot' + 5 ≤ length h
          end' = let k = counts (length h) d f in let r = room in omega arith

          h₁-long : length h₁ ≡ length h
          h₁-long = over-length spot' (new_words i) h end'

          one : n < n + 1
          one = omega arith

          few₁ : n + 1 ≤ 8
          few₁ = let r = room in omega arith

          long₁ : 8347 ≤ length h₁
          long₁ = let k = counts (length h) d f in let e = h₁-long in omega arith

          new-here : drop spot' h₁ ≡ rest
          new-here = let e = end' in drop_at (take spot' h) rest spot' (length-take-le spot' h (omega arith))

          spot_is : drop (n * 1029) (drop 113 h₁) ≡ rest
          spot_is = drop-drop (n * 1029) 113 h₁ ∙ new-here

          ok₁ : ring_sound (ring n (n + 1) q h₁ one few₁ long₁) ≡ true
          unfolding ring_sound
          ok₁ = ap ring_ok new-here

          order₁ : order n (n + 1) q h₁ one few₁ long₁ ok₁ ≡ []
          order₁ = ap (λ (x : List ℕ). order_of (ring_at x) (words n (n + 1) q h₁ one few₁ long₁)) new-here ∙ order-new (words n (n + 1) q h₁ one few₁ long₁)

          not_seen : seen q (order n (n + 1) q h₁ one few₁ long₁ ok₁) ≡ false
          not_seen = ap (seen q) order₁

          id-new : id_at (drop (n * 1029) (drop 113 h₁)) ≡ i
          id-new = ap id_at spot_is ∙ id-back i (0 ∷ 0 ∷ drop (spot' + 5) h) s v

          value₁ : value n (n + 1) q h₁ one few₁ long₁ ok₁ ≡ record { producer = i; order = q ∷ [] }
          value₁ = ap₂ (λ (y : Id) (x : List ℕ). record { producer = y; order = x }) id-new (order-new-is n (n + 1) q h₁ one few₁ long₁ ok₁ not_seen ∙ ap (recorded q) order₁)

          front-is : drop 113 h₁ ≡ take (n * 1029) l ++ (new_words i ++ drop (n * 1029 + 5) l)
          front-is = let e = end' in over-from spot' (new_words i) h 113 (n * 1029) refl (omega arith)

          fits-l : n * 1029 ≤ length l
          fits-l = let e = end' in omega (arith, length-drop 113 h)

          abbrev exit' : List ℕ
          exit' = written_from (place n (n + 1) q h₁ one few₁ long₁ + 3) (after n (n + 1) q h₁ one few₁ long₁ ok₁) h₁

          module _ (r : rings_formed n l ≡ true) where
            oks-l : oks audit_at ring_ok 1029 n l ≡ true
            oks-l = sym (rings-oks n l) ∙ r

            oks₁ : oks audit_at ring_ok 1029 (n + 1) (drop 113 h₁) ≡ true
            oks₁ =
                oks-more audit_at ring_ok 1029 n (drop 113 h₁)
                ∙ and_both _ _ (ap (oks audit_at ring_ok 1029 n) front-is ∙ oks-before audit_at ring_ok 1029 audit-local ring-same n (n * 1029) l (new_words i ++ drop (n * 1029 + 5) l) (omega arith) fits-l ∙ oks-l)
                (ap ring_ok (drop-drop (n * 1029) 113 h₁) ∙ ok₁)

            audits₁ : audits_at (n + 1) (drop 113 h₁) ≡ audits_at n l ++ audit_at (drop (n * 1029) (drop 113 h₁)) ∷ []
            audits₁ =
                audits-elems (n + 1) (drop 113 h₁)
                ∙ elems-more audit_at ring_ok 1029 n (drop 113 h₁)
                ∙ ap (λ (x : List Audit). x ++ audit_at (drop (n * 1029) (drop 113 h₁)) ∷ [])
                (ap (elems audit_at ring_ok 1029 n) front-is ∙ elems-before audit_at ring_ok 1029 audit-local ring-same n (n * 1029) l (new_words i ++ drop (n * 1029 + 5) l) (omega arith) fits-l oks-l ∙ sym (audits-elems n l))

            audits-new : audits_at (n + 1) (drop 113 exit') ≡ audits_at n l ++ record { producer = i; order = q ∷ [] } ∷ []
            audits-new =
                checked-audits n (n + 1) q h₁ one few₁ long₁ ok₁ oks₁
                ∙ ap₂ (λ (x : List Audit) (y : Audit). set x n y) audits₁ value₁
                ∙ set_at (audits_at n l) (audit_at (drop (n * 1029) (drop 113 h₁))) [] (record { producer = i; order = q ∷ [] }) n (audits-length n l)

          ids-new : ids_at d.producers (drop 17 exit') ≡ ids_at d.producers (drop 17 h)
          ids-new =
              let k = (counts (length h) d f).producers in
              let e = end' in
              checked-ids n (n + 1) q h₁ one few₁ long₁ ok₁ d.producers k ∙ ids-kept d.producers spot' (new_words i) h k (omega arith) (omega arith)

          exit-long : length exit' ≡ length h
          exit-long = checked-long n (n + 1) q h₁ one few₁ long₁ ok₁ ∙ h₁-long

          new-fits : head_fits (length exit') d₁ ≡ true
          new-fits =
              let k = counts (length h) d f in
              let e = exit-long in
              all-every (leb 8347 (length exit') ∷ leb d.producers 32 ∷ leb (n + 1) 8 ∷ []) (le-leb 8347 (length exit') (omega arith), (le-leb d.producers 32 k.producers, (le-leb (n + 1) 8 few₁, tt)))

          fresh : PerformsInHead (testing i q) d h (done_as (bool_byte (step n (n + 1) q h₁ one few₁ long₁).checked.duplicate) d₁) exit'
          unfolding test_at head_view
          fresh = record {
            long = exit-long;
            others = refl;
            kept = λ z. absurd (z refl);
            refusal = λ _ subs rows. rw f (sym (own-missing subs rows ∙ rw u));
            fit = λ _. new-fits;
            formed = λ _ r. checked-formed n (n + 1) q h₁ one few₁ long₁ ok₁ (oks₁ r);
            answer = λ _ _ subs rows. ap bool_byte (duplicate-is n (n + 1) q h₁ one few₁ long₁ ok₁ ∙ not_seen) ∙ sym (ap (λ (a : Answer). a.answer) (tested-by i q (head_dest d h subs rows) c none missing));
            done = λ _ r subs rows _ _. ap₂ (λ (x : List Id) (y : List Audit). head_view d₁ subs rows x y) ids-new (audits-new r) ∙ sym (ap (λ (a : Answer). a.dest) (tested-by i q (head_dest d h subs rows) c none missing));
          }

          -- a new audit is in range, so that nothing is refused
          pub fresh-accepted : (checked_at n q d₁ h₁).result.refusal ≡ 0
          fresh-accepted = ap (λ (x : HeadLeft). x.result.refusal) (checked-is n (n + 1) q h₁ one few₁ long₁ ok₁ d₁)

          pub fresh-performs : PerformsInHead (testing i q) d h (checked_at n q d₁ h₁).result (checked_at n q d₁ h₁).words
          fresh-performs = subst (λ (x : HeadLeft). PerformsInHead (testing i q) d h x.result x.words) (sym (checked-is n (n + 1) q h₁ one few₁ long₁ ok₁ d₁)) fresh

          pub tested-fresh : tested i q d h ≡ checked_at n q d₁ h₁
          unfolding tested
          tested-fresh = rw (f, c, le-ltb first n b, u)
