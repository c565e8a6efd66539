-- From sound buffers to a destination by value on which a call is about to run, and from what its parts leave back to buffers. Assumes nothing.
use mathlib.Core.Path.{◌≡◌, refl, sym, ap, ap₂, ◌∙◌, subst⁻¹}
use mathlib.Core.Bool.{true, false}
use mathlib.Core.List.{List, [], ◌∷◌, ◌++◌, map}
use Prim.Native.Nat.{ℕ, ◌+◌, ◌≤◌, ◌<◌, ◌^◌}
use native.Mathlib.Omega.{arith}
use borrow.Author.Tests.{leb-true, le-leb, eqb-false}
use lib.Dec.{eqb, leb}
use lib.ListN.{length, take, drop, length-map, length-take}
use lib.Seq.{drop-drop}
use Rattle.stats.specs.Counted.{more}
use Rattle.definition.specs.Types.{Id, Audit, Dest}
use Rattle.definition.specs.Destination.{Out}
use Rattle.definition.specs.Calls.{short, sound, used}
use Rattle.definition.specs.Words.{at}
use Rattle.definition.specs.Layout.{Row, Buffers, event_words, sub_rows, ids_at, audits_at, rings_formed, used_rows, view, strict, formed, sound_buffers, lengths_of}
use Rattle.definition.proofs.Tests.{and_left, and_right, and_both}
use Rattle.definition.proofs.Thin.{every-all, all-every}
use Rattle.definition.proofs.Sound.{facts}
use Rattle.state.specs.declared.Head.{Head}
use Rattle.state.specs.State.{head_of, head_view, strict_tables, loaded, stored_head, with_used_calls}
use Rattle.state.specs.Leaves.{Leaves}
use Rattle.state.specs.Ready.{Ready}
use Rattle.state.proofs.View.{loaded-view, settled, settled_same, stored-view, stored-formed, stored_past, stored-length}
use Rattle.state.proofs.Counts.{used-view}
use Rattle.state.proofs.Fitting.{Long, not_short, sound-facts, sound-loaded, sound-strict}
use Rattle.producers.proofs.Adding.{ids-length}
use Rattle.engine.specs.Called.{Past}

module _ (h : List ℕ) (subs rows events : List Row)
    (roomy : short (lengths_of (record { head = h; subs = subs; rows = rows }) (length events)) ≡ false)
    (s : sound_buffers (record { head = h; subs = subs; rows = rows }) ≡ true)
  where
    abbrev pub b : Buffers
    b = record { head = h; subs = subs; rows = rows }

    pub long : Long b (length events)
    long = not_short b (length events) roomy

    -- the numbers that are loaded
    abbrev pub d : Head
    d = loaded h subs

    abbrev pub plain : Head
    plain = head_of h (used_rows b)

    pub d-is : d ≡ plain
    d-is = sound-loaded b (length events) long s

    abbrev pub ids : List Id
    ids = ids_at (at 13 h) (drop 17 h)

    abbrev pub rings : List Audit
    rings = audits_at (at 14 h) (drop 113 h)

    -- they are viewed as the buffers are
    pub shown : head_view d subs rows ids rings ≡ view b
    shown = ap (λ (x : Head). head_view x subs rows ids rings) d-is ∙ loaded-view subs rows h (used_rows b)

    pub calls_are : eqb d.calls_used d.call_limit ≡ eqb (view b).calls_used (view b).call_limit
    unfolding head_view
    calls_are = ap (λ (t : Dest). eqb t.calls_used t.call_limit) shown

    pub as_many : length ids ≡ d.producers
    unfolding head_of
    as_many = ids-length (at 13 h) (drop 17 h) ∙ sym (ap (λ (x : Head). x.producers) d-is)

    pub sound-view : sound (view b) ≡ true
    unfolding sound_buffers
    sound-view = and_right (formed b) (sound (view b)) s

    -- a call is left
    plain_ready : eqb (view b).calls_used (view b).call_limit ≡ false → Ready plain subs rows events
    unfolding head_of view
    plain_ready e =
        let f = sound-facts b (length events) long s in
        let t = facts (view b) sound-view in
        record {
          producers = ids;
          audits = rings;
          as_many = ids-length (at 13 h) (drop 17 h);
          is-sound = ap sound (loaded-view subs rows h (used_rows b)) ∙ sound-view;
          left = omega (arith, leb-true (at 3 h) (at 2 h) t.calls, eqb-false (at 3 h) (at 2 h) e);
          none-sent = refl;
          stands = record { consumers = f.consumers; used = f.used; rows-used = f.rows-used };
          strict = sound-strict b (length events) long s;
          long = record { subs-long = long.subs; rows_long = long.rows; events-long = long.events };
        }

    pub ready : eqb (view b).calls_used (view b).call_limit ≡ false → Ready d subs rows events
    ready e = subst⁻¹ (λ (x : Head). Ready x subs rows events) d-is (plain_ready e)

    pub strict-words : strict_tables d subs rows ≡ true
    strict-words = ap (λ (x : Head). strict_tables x subs rows) d-is ∙ sound-strict b (length events) long s

    pub none-sent : d.events ≡ 0
    unfolding head_of
    none-sent = ap (λ (x : Head). x.events) d-is

    -- what parts of a call have left is stored, with one call more
    module _ (f : Dest → Out) (r : Head) (subs' rows' events' : List Row) (l : Leaves f d r subs rows events subs' rows' events') (few : r.events ≤ 545)
        (z : sound (used (f (view b)).dest) ≡ true)
      where
        abbrev last : Head
        last = with_used_calls (more r.calls_used) r

        abbrev pub b' : Buffers
        b' = record { head = stored_head last h; subs = subs'; rows = rows' }

        left : head_view r subs' rows' ids rings ≡ (f (view b)).dest
        left = l.view ids rings as_many ∙ ap (λ (t : Dest). (f t).dest) shown

        few-calls : r.calls_used < 18446744073709551615
        unfolding head_view
        few-calls =
            let y : sound (used (head_view r subs' rows' ids rings)) ≡ true = ap (λ (t : Dest). sound (used t)) left ∙ z in
            let t = facts (used (head_view r subs' rows' ids rings)) y in
            omega (arith, leb-true (r.calls_used + 1) r.call_limit t.calls, leb-true r.call_limit (2 ^ 40) t.limit-high)

        same-producers : r.producers ≡ at 13 h
        unfolding head_of
        same-producers = l.producers ∙ ap (λ (x : Head). x.producers) d-is

        same-audits : r.audits ≡ at 14 h
        unfolding head_of
        same-audits = l.audits ∙ ap (λ (x : Head). x.audits) d-is

        same-allowance : r.allowance ≡ at 8345 h
        unfolding head_of
        same-allowance = l.allowance ∙ ap (λ (x : Head). x.allowance) d-is

        same-share : r.share ≡ at 8346 h
        unfolding head_of
        same-share = l.share ∙ ap (λ (x : Head). x.share) d-is

        -- what stands after the numbers is as it was
        after_same : settled last h ≡ drop 17 h
        after_same = settled_same last h same-allowance same-share

        pub shows : view b' ≡ used (f (view b)).dest
        shows =
            stored-view subs' rows' last h long.head same-allowance same-share
            ∙ ap₂ (λ (n m : ℕ). head_view last subs' rows' (ids_at n (drop 17 h)) (audits_at m (drop 113 h))) same-producers same-audits
            ∙ used-view subs' rows' ids rings r few-calls
            ∙ ap used left

        is-formed : formed b' ≡ true
        unfolding sound_buffers formed
        is-formed =
            let g = every-all (leb (at 12 h) 32 ∷ leb (at 13 h) 32 ∷ leb (at 14 h) 8 ∷ leb (used_rows b) 512 ∷ rings_formed (at 14 h) (drop 113 h) ∷ strict b ∷ []) (and_left _ _ s) in
            stored-formed subs' rows' last h long.head
            ∙ all-every (leb r.consumers 32 ∷ leb r.producers 32 ∷ leb r.audits 8 ∷ leb (sub_rows (take r.consumers subs') + (r.reserved + r.waiting)) 512 ∷ rings_formed r.audits (drop 96 (settled last h)) ∷ strict_tables r subs' rows' ∷ [])
            (le-leb _ _ l.consumers, (ap (λ (n : ℕ). leb n 32) same-producers ∙ g.1.0, (ap (λ (n : ℕ). leb n 8) same-audits ∙ g.1.1.0, (le-leb (sub_rows (take r.consumers subs') + (r.reserved + r.waiting)) 512 (omega (arith, l.rows-used, l.used)), (ap₂ rings_formed same-audits (ap (drop 96) after_same ∙ drop-drop 96 17 h) ∙ g.1.1.1.1.0, (l.strict strict-words, tt))))))

        pub leaves-sound : sound_buffers b' ≡ true
        unfolding sound_buffers
        leaves-sound = and_both (formed b') (sound (view b')) is-formed (ap sound shows ∙ z)

        pub past : Past b b' events events'
        past = record {
          head-past = stored_past last h long.head;
          subs-past = l.subs-past;
          rows-past = l.rows-past;
          head-length = stored-length last h long.head;
          subs-length = l.subs-length;
          rows-length = l.rows-length;
          events-length = l.events-length;
        }

        pub sent : take r.events events' ≡ map event_words (f (view b)).events
        sent = l.sent ids rings as_many ∙ ap₂ (λ (n : ℕ) (t : Dest). take n events ++ map event_words (f t).events) none-sent shown

        pub count : r.events ≡ length (f (view b)).events
        count =
            let n : length (take r.events events') ≡ length (f (view b)).events = ap length sent ∙ length-map (f (view b)).events event_words in
            omega (arith, length-take r.events events', l.events-length, long.events)
