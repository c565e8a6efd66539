-- A step of one consumer in the whole destination: what it leaves of its own part of the tables, it leaves of the view. Assumes nothing.
use Rattle.std.specs.Prelude.{Some}
use mathlib.Core.Path.{◌≡◌, sym, ap, ap₂, ◌∙◌}
use mathlib.Core.Bool.{true}
use mathlib.Core.List.{List, [], ◌∷◌, ◌++◌, map}
use mathlib.Core.Option.{some}
use Prim.Native.Nat.{ℕ, suc, ◌+◌, ◌-◌, ◌≤◌, ◌<◌, min}
use native.Mathlib.Omega.{arith}
use lib.ListN.{length, take, drop, get_or, set, length-set, length-drop}
use lib.Seq.{length-take-le, take-take, take-set-le, take-set-lt, drop-set-lt, get_or-take, get_or-set_same, drop-drop}
use Rattle.entry.specs.Entry.{entry_of}
use Rattle.definition.specs.Base.{all}
use Rattle.definition.specs.Types.{Kind, Id, Audit, Dest}
use Rattle.definition.specs.Types as Def
use Rattle.definition.specs.Consumer.{◌⊕◌, Step, Ack, ack_sub}
use Rattle.definition.specs.Destination.{Out, sub_of}
use Rattle.definition.specs.Words.{at}
use Rattle.definition.specs.Layout.{Row, held_at, inflight_count, held_count, sub_at, subs_at, sub_rows, event_words, entry_strict, subs_strict}
use Rattle.table.proofs.Lists.{slice-take}
use Rattle.consumers.specs.declared.Sub.{Sub}
use Rattle.consumers.specs.Consumers.{sub_words}
use Rattle.consumers.specs.Consumers as Value
use Rattle.consumers.specs.Seats.{after_in, sub_in}
use Rattle.consumers.specs.Table.{position_from}
use Rattle.consumers.proofs.View.{sub_at_lem, sub-stored, subs-split, subs-set, subs-agree, rows_split, rows-set, after-all}
use Rattle.consumers.proofs.Strict.{SubStrict, stored-strict, strict-at, strict-agree, strict-put, tables-strict, strict-tables}
use Rattle.consumers.proofs.Seek.{position-within, found_at, put-at}
use Rattle.consumers.proofs.Laws.{fitting-at}
use Rattle.state.specs.declared.Head.{Head}
use Rattle.state.specs.State.{head_view, strict_tables, kind_by, with_counters, with_used, with_events}
use Rattle.state.specs.Fits.{Fits}
use Rattle.state.specs.Leaves.{Leaves, Room}
use Rattle.acks.specs.Acks.{step_at, acked}
use Rattle.acks.specs.Parts.{own_flying, own_held, own_after, own_view, Own, Acted}
use Rattle.acks.proofs.Parts.{in_parts}

-- lists that agree up to n agree in a part of that
agree : (j k n : ℕ) (x y : List Row) → j + k ≤ n → take n x ≡ take n y → take k (drop j x) ≡ take k (drop j y)
agree j k n x y h q =
    let e : j + k - j ≡ k = omega arith in
    let part : (l : List Row) → take k (drop j l) ≡ drop j (take (j + k) (take n l)) =
    λ l. ap (λ (m : ℕ). take m (drop j l)) (sym e) ∙ sym (slice-take j (j + k) l (omega arith)) ∙ ap (drop j) (sym (take-take (j + k) n l h)) in
    part x ∙ ap (λ (l : List Row). drop j (take (j + k) l)) q ∙ sym (part y)

module _ (subs rows events : List Row) (d : Head) (fits : Fits subs d (length rows) (length events)) where
  abbrev ws : List Row
  ws = take d.consumers subs

  abbrev k : Kind
  k = kind_by d.queue

  size : length ws ≡ d.consumers
  size = length-take-le d.consumers subs (omega (arith, fits.subs-long, fits.consumers))

  module _ (i : ℕ) (here : i < d.consumers) where
    abbrev w : Row
    w = get_or ws i []

    abbrev s : Sub
    s = Value.row_sub w

    abbrev base : ℕ
    base = sub_rows (take i ws)

    abbrev post : List Row
    post = drop (suc i) ws

    within : i < length ws
    within = omega (arith, size)

    -- as the table of consumers has them
    pub base-is : (b : ℕ) → b ≡ min 513 (sub_rows (take i subs)) → b ≡ base
    base-is b e =
        let t : take i subs ≡ take i ws = sym (take-take i d.consumers subs (omega arith)) in
        let q : b ≡ min 513 base = e ∙ ap (λ (l : List Row). min 513 (sub_rows l)) t in
        omega (arith, rows_split ws i within, fits.rows-used, fits.used)

    pub sub_is : (x : Sub) → x ≡ Value.row_sub (get_or subs i []) → x ≡ s
    sub_is x e = e ∙ ap Value.row_sub (sym (get_or-take d.consumers subs i [] here))

    split : sub_rows ws ≡ base + (s.inflight + (s.held + sub_rows post))
    unfolding Value.row_sub
    split = rows_split ws i within

    pub own : Own (length rows) base s d
    unfolding Value.row_sub
    own =
        let h : sub_rows ws ≡ base + (s.inflight + (s.held + sub_rows post)) = split in
        let f : at 13 w ≤ at 14 w = (fitting-at ws i fits.fitted within).0 in
        record {
          rows = omega (arith, fits.rows-used);
          used = fits.used;
          room = fits.rows_long;
          events = fits.sent;
          freed = f;
          dequeued = fits.dequeued;
          expired = fits.expired;
          discarded = fits.discarded;
        }

    own_view_lem : own_view k base s rows ≡ sub_in k ws rows i
    unfolding Value.row_sub
    own_view_lem = sym (sub_at_lem k w _ _)

    module _ (step : Def.Sub → Step) (t : Sub) (r : Head) (rows' events' : List Row) (a : Acted step k base s t d r rows events rows' events') where
      abbrev subs' : List Row
      subs' = set subs i (sub_words t)

      abbrev ws' : List Row
      ws' = set ws i (sub_words t)

      abbrev v : Def.Sub
      v = own_view k base s rows

      ws-is : take d.consumers subs' ≡ ws'
      ws-is = take-set-lt d.consumers subs i (sub_words t) here

      within' : i < length ws'
      within' = simp length-set within

      front : take i ws' ≡ take i ws
      front = take-set-le i ws i (sub_words t) (omega arith)

      mid : get_or ws' i [] ≡ sub_words t
      mid = get_or-set_same ws i (sub_words t) [] within

      back : drop (suc i) ws' ≡ post
      back = drop-set-lt (suc i) ws i (sub_words t) (omega arith)

      -- the rows after the consumer's
      abbrev n : ℕ
      n = d.used - (base + (s.inflight + s.held))

      n-is : n ≡ sub_rows post + (d.reserved + d.waiting)
      n-is = omega (arith, split, fits.rows-used)

      tail-is : after_in ws' rows' i ≡ own_after base t rows'
      unfolding sub_words
      tail-is = ap₂ (λ (l : List Row) (x : Row). drop (held_count x) (drop (inflight_count x) (drop (sub_rows l) rows'))) front mid

      stored : sub_in k ws' rows' i ≡ (step (sub_in k ws rows i)).sub
      unfolding sub_words
      stored =
          ap₂ (λ (l : List Row) (x : Row). sub_at k x (take (inflight_count x) (drop (sub_rows l) rows')) (take (held_count x) (drop (inflight_count x) (drop (sub_rows l) rows')))) front mid
          ∙ sub-stored k t (own_flying base t rows') (own_held base t rows')
          ∙ a.sub
          ∙ ap (λ (x : Def.Sub). (step x).sub) own_view_lem

      consumers-are : subs_at k (take d.consumers subs') rows' ≡ set (subs_at k ws rows) i (step (sub_in k ws rows i)).sub
      unfolding Value.row_sub
      consumers-are =
          let first : subs_at k (take i ws') rows' ≡ subs_at k (take i ws) rows =
          ap (λ (l : List Row). subs_at k l rows') front ∙ subs-agree k (take i ws) base rows' rows (omega arith) a.before in
          let last : subs_at k (drop (suc i) ws') (after_in ws' rows' i) ≡ subs_at k post (after_in ws rows i) =
          ap₂ (λ (l x : List Row). subs_at k l x) back tail-is ∙ subs-agree k post n (own_after base t rows') (after_in ws rows i) (omega (arith, n-is)) a.after in
          ap (λ (l : List Row). subs_at k l rows') ws-is
          ∙ subs-split k ws' rows' i within'
          ∙ (λ j. first j ++ stored j ∷ last j)
          ∙ sym (subs-set k ws rows i (step (sub_in k ws rows i)).sub within)

      -- the rows after all the consumers'
      others : drop (sub_rows (take d.consumers subs')) rows' ≡ drop (sub_rows post) (own_after base t rows')
      others =
          ap (λ (l : List Row). drop (sub_rows l) rows') ws-is ∙ after-all ws' rows' i within' ∙ ap₂ (λ (l x : List Row). drop (sub_rows l) x) back tail-is

      others₀ : drop (sub_rows ws) rows ≡ drop (sub_rows post) (own_after base s rows)
      unfolding Value.row_sub
      others₀ = after-all ws rows i within

      same-part : (j m : ℕ) → j + m ≤ d.reserved + d.waiting
          → take m (drop j (drop (sub_rows (take d.consumers subs')) rows')) ≡ take m (drop j (drop (sub_rows ws) rows))
      same-part j m h =
          ap (λ (l : List Row). take m (drop j l)) others
          ∙ ap (take m) (drop-drop j (sub_rows post) (own_after base t rows'))
          ∙ agree (sub_rows post + j) m n (own_after base t rows') (own_after base s rows) (omega (arith, n-is)) a.after
          ∙ ap (take m) (sym (drop-drop j (sub_rows post) (own_after base s rows)))
          ∙ ap (λ (l : List Row). take m (drop j l)) (sym others₀)

      -- strict words stay strict
      flying-size : length (own_flying base t rows') ≡ t.inflight
      flying-size = length-take-le t.inflight (drop base rows') (simp length-drop (omega (arith, own, a.size, a.flying)))

      held-size : length (own_held base t rows') ≡ t.held
      held-size = length-take-le t.held (drop t.inflight (drop base rows')) (simp length-drop (omega (arith, own, a.size, a.flying, a.held)))

      subs-strict : subs_strict ws rows ≡ true → subs_strict ws' rows' ≡ true
      unfolding Value.row_sub sub_words
      subs-strict z =
          let g = strict-at ws rows i within z in
          let mine : SubStrict (sub_words t) (own_flying base t rows') (own_held base t rows') =
          record { words = stored-strict t; flying = a.strict g.own.flying; held = ap (all entry_strict) a.holds ∙ g.own.held } in
          let last : subs_strict post (own_after base t rows') ≡ true = strict-agree post n (own_after base t rows') (own_after base s rows) (omega (arith, n-is)) a.after ∙ g.after in
          ap (subs_strict ws') (in_parts base t rows' ∙ ap (λ (l : List Row). l ++ (own_flying base t rows' ++ (own_held base t rows' ++ own_after base t rows'))) a.before)
          ∙ strict-put ws rows i (sub_words t) (own_flying base t rows') (own_held base t rows') (own_after base t rows') within (omega (arith, own)) flying-size held-size g mine last

      abbrev same : {A : Type 0} (f : Head → A) → f r ≡ f (with_used r.used (with_events r.events (with_counters (d.stats ⊕ (step v).counts) d)))
      same f = ap f a.head

      strict : strict_tables d subs rows ≡ true → strict_tables r subs' rows' ≡ true
      strict z =
          let m : ℕ = d.reserved + d.waiting in
          let g = tables-strict m ws rows z in
          same (λ (y : Head). strict_tables y subs' rows')
          ∙ strict-tables m (take d.consumers subs') rows' (record {
            subs = ap (λ (l : List Row). subs_strict l rows') ws-is ∙ subs-strict g.subs;
            others = ap (all entry_strict) (same-part 0 m (omega arith)) ∙ g.others;
          })

      module _ (id : Id) (e : position_from 0 id ws ≡ Some i) where
        abbrev does : Dest → Out
        does x = step_at step id x (sub_of id x)

        done : (ps : List Id) (qs : List Audit) → does (head_view d subs rows ps qs) ≡ step_at step id (head_view d subs rows ps qs) (some (sub_in k ws rows i))
        unfolding head_view
        done ps qs = ap (step_at step id (head_view d subs rows ps qs)) (found_at id ws i e k rows)

        view : (ps : List Id) (qs : List Audit) → head_view r subs' rows' ps qs ≡ (does (head_view d subs rows ps qs)).dest
        unfolding head_view step_at
        view ps qs =
            let x : Step = step (sub_in k ws rows i) in
            let mine : subs_at k (take d.consumers subs') rows' ≡ _ = consumers-are ∙ sym (put-at id ws i e k rows x.sub) in
            let waits = same-part d.reserved d.waiting (omega arith) in
            let holds = same-part 0 d.reserved (omega arith) in
            let counted : d.stats ⊕ (step v).counts ≡ d.stats ⊕ x.counts = ap (λ (y : Def.Sub). d.stats ⊕ (step y).counts) own_view_lem in
            same (λ (y : Head). head_view y subs' rows' ps qs)
            ∙ (λ j. record {
              kind = k;
              topic_limit = d.topic_limit;
              call_limit = d.call_limit;
              allowance = d.allowance;
              share = d.share;
              calls_used = d.calls_used;
              pending = map entry_of (waits j);
              subs = mine j;
              rr = d.turn;
              producers = ps;
              audits = qs;
              stats = counted j;
              idle = (head_view d subs rows ps qs).idle;
              reserved = map held_at (holds j);
            })
            ∙ sym (ap (λ (o : Out). o.dest) (done ps qs))

        sent : (ps : List Id) (qs : List Audit) → take r.events events' ≡ take d.events events ++ map event_words (does (head_view d subs rows ps qs)).events
        unfolding step_at
        sent ps qs =
            a.said
            ∙ ap (λ (y : Def.Sub). take d.events events ++ map event_words (step y).events) own_view_lem
            ∙ sym (ap (λ (o : Out). take d.events events ++ map event_words o.events) (done ps qs))

        pub whole-step : Leaves does d r subs rows events subs' rows' events' × Room d r
        unfolding sub_words
        whole-step =
            let nc : r.consumers ≡ d.consumers = same (λ (x : Head). x.consumers) in
            let nr : r.reserved ≡ d.reserved = same (λ (x : Head). x.reserved) in
            let nw : r.waiting ≡ d.waiting = same (λ (x : Head). x.waiting) in
            let rows_are : sub_rows (take r.consumers subs') ≡ base + (t.inflight + (t.held + sub_rows post)) =
            ap (λ (m : ℕ). sub_rows (take m subs')) nc ∙ ap sub_rows ws-is ∙ rows-set ws i (sub_words t) within in
            let h : sub_rows ws ≡ base + (s.inflight + (s.held + sub_rows post)) = split in
            let u = a.used in
            let l = a.flying in
            let g = a.held in (
              record {
                view = λ ps qs x. view ps qs;
                sent = λ ps qs x. sent ps qs;
                later = a.later;
                more = a.more;
                producers = same (λ (x : Head). x.producers);
                audits = same (λ (x : Head). x.audits);
                queue = same (λ (x : Head). x.queue);
                allowance = same (λ (x : Head). x.allowance);
                share = same (λ (x : Head). x.share);
                consumers = omega (arith, fits.consumers);
                used = omega (arith, fits.used);
                rows-used = omega (arith, fits.rows-used);
                strict = strict;
                subs-past = drop-set-lt 32 subs i (sub_words t) (omega (arith, fits.consumers));
                rows-past = a.past;
                subs-length = length-set subs i (sub_words t);
                rows-length = a.size;
                events-length = a.events-size;
              },
              record { room = omega (arith, a.most, fits.sent); as_many = nc },
            )

    -- for a consumer and a base as they were read
    module _ (b : ℕ) (x : Sub) (eb : b ≡ min 513 (sub_rows (take i subs))) (ex : x ≡ Value.row_sub (get_or subs i [])) where
      pub own_at : Own (length rows) b x d
      own_at = rw (base-is b eb, sub_is x ex) own

      pub found-own : (id : Id) → position_from 0 id ws ≡ Some i → (ps : List Id) (us : List Audit) → sub_of id (head_view d subs rows ps us) ≡ some (own_view k b x rows)
      unfolding head_view
      found-own id e ps us = found_at id ws i e k rows ∙ ap some (sym own_view_lem) ∙ ap₂ (λ (m : ℕ) (y : Sub). some (own_view k m y rows)) (sym (base-is b eb)) (sym (sub_is x ex))

      pub acked-at : (c : Ack) (t : Sub) (r : Head) (subs' rows' events' : List Row) → subs' ≡ set subs i (sub_words t) → Acted (ack_sub c) k b x t d r rows events rows' events'
          → (id : Id) → position_from 0 id ws ≡ Some i → Leaves (acked id c) d r subs rows events subs' rows' events' × Room d r
      unfolding acked
      acked-at c t r subs' rows' events' es a id e = rw es (whole-step (ack_sub c) t r rows' events' (rw (base-is b eb, sub_is x ex) at a) id e)

  pub place-within : (id : Id) (i : ℕ) → position_from 0 id ws ≡ Some i → i < d.consumers
  place-within id i e = omega (arith, position-within id ws i e, size)
