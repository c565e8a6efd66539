-- The scans over a queue's consumers: what the definition says at the start of a scan or of a turn, it says at the next. Assumes nothing.
use mathlib.Core.Path.{◌≡◌, refl, sym, ap, ap₂, ◌∙◌}
use mathlib.Core.Bool.{Bool, true, false}
use mathlib.Core.List.{List, [], ◌∷◌, ◌++◌, append_assoc, append-nil, map, map-append}
use Prim.Native.Nat.{ℕ, suc, ◌+◌, ◌-◌, ◌%◌, ◌≤◌, ◌<◌}
use native.Mathlib.Nat.{add-zero, mod-lt}
use native.Mathlib.Omega.{arith}
use lib.ListN.{length, take, drop, length-map, length-drop}
use lib.Seq.{length-take-le}
use Rattle.words.proofs.Tests.{by-test}
use Rattle.entry.specs.Entry.{entry_of}
use Rattle.definition.specs.Base.{whether◌then◌else◌, empty, up_from}
use Rattle.definition.specs.Types.{Id, Audit, Dest, Event}
use Rattle.definition.specs.Destination.{Out, Turn, visit, scan, turns, rounds}
use Rattle.definition.specs.Layout.{Row, sub_rows, event_words}
use Rattle.definition.proofs.Tests.{if-true}
use Rattle.definition.proofs.Lists.{empty-nil, length-nil}
use Rattle.definition.proofs.Local.{rounds-none}
use Rattle.definition.proofs.Stored.{subs-length}
use Rattle.state.specs.declared.Head.{Head}
use Rattle.state.specs.State.{head_view, kind_by}
use Rattle.state.specs.Leaves.{Leaves}
use Rattle.queues.specs.Scan.{served, Scans, Onward, Visited}
use Rattle.queues.proofs.Onward.{onward-same, onward_then}

-- ---- the definition

module _ (now i : ℕ) (is : List ℕ) (t : Dest) (u : Turn) (here : visit now i t ≡ u) where
  scan-took : u.took ≡ true → scan now (i ∷ is) t ≡ u
  unfolding scan
  scan-took h = ap (λ (x : Turn). whether x.took then x else scan now is x.dest) here ∙ if-true u (scan now is u.dest) h

  scan-on : u.took ≡ false → scan now (i ∷ is) t ≡ scan now is u.dest
  unfolding scan
  scan-on h = rw (ap (λ (x : Turn). x.took) here ∙ h) (ap (λ (x : Turn). scan now is x.dest) here)

module _ (fuel now : ℕ) (t : Dest) (u : Turn) (here : scan now (turns t) t ≡ u) where
  rounds-stop : u.took ≡ false → rounds (suc fuel) now t ≡ record { dest = u.dest; events = u.events }
  unfolding rounds
  rounds-stop h = rw (ap (λ (x : Turn). x.took) here ∙ h) (ap (λ (x : Turn). record { dest = x.dest; events = x.events }) here)

  rounds-on : u.took ≡ true → rounds (suc fuel) now t ≡ record { dest = (rounds fuel now u.dest).dest; events = u.events ++ (rounds fuel now u.dest).events }
  unfolding rounds
  rounds-on h = by-test (empty u.dest.pending)
      (λ e. rw (here, h, e) (let none_left : rounds fuel now u.dest ≡ record { dest = u.dest; events = [] } = rounds-none fuel now u.dest (empty-nil u.dest.pending e) in
      λ j. record { dest = (sym none_left j).dest; events = (sym (append-nil u.events) ∙ ap (λ (x : Out). u.events ++ x.events) (sym none_left)) j }))
      (λ e. rw (here, h, e))

-- the consumers' places in turn order, from a turn on
abbrev places : ℕ → ℕ → ℕ → List ℕ
places n from m = map (λ k. k % n) (up_from from m)

-- the destination and all events so far
pub record Sent : Type 0 where
  pub dest : Dest
  pub events : List Row

abbrev pub after : List Row → Out → Sent
after l o = record { dest = o.dest; events = l ++ map event_words o.events }

-- ---- the view's numbers

module _ (d : Head) (subs rows : List Row) (nevents : ℕ) (ok : Scans subs d (length rows) nevents) (ps : List Id) (qs : List Audit) where
  consumers-are : length (head_view d subs rows ps qs).subs ≡ d.consumers
  unfolding head_view
  consumers-are = subs-length (kind_by d.queue) (take d.consumers subs) rows ∙ length-take-le d.consumers subs (let x = ok.consumers in let y = ok.subs-long in omega arith)

  pending-are : length (head_view d subs rows ps qs).pending ≡ d.waiting
  unfolding head_view
  pending-are =
      let others : List Row = drop (sub_rows (take d.consumers subs)) rows in
      let l : List Row = drop d.reserved others in
      let u = ok.rows-used in
      let v = ok.used in
      let x = ok.rows_long in
      length-map (take d.waiting l) entry_of ∙ length-take-le d.waiting l (simp length-drop (omega arith))

  turns-are : turns (head_view d subs rows ps qs) ≡ places d.consumers d.turn d.consumers
  unfolding head_view
  turns-are = ap (λ (n : ℕ). places n d.turn n) consumers-are

-- ---- within a scan

-- no one of the first k has taken anything
pub record Seeking (now : ℕ) (subs₁ rows₁ events₁ : List Row) (d₁ : Head) (subs rows events : List Row) (d : Head) (k : ℕ) : Type 0 where
  pub within : k ≤ d₁.consumers
  pub scans : Scans subs d (length rows) (length events)
  pub onward : Onward d₁ d subs₁ rows₁ events₁ subs rows events
  pub turn : d.turn ≡ d₁.turn
  pub sent : take d.events events ≡ take d₁.events events₁
  pub says : (ps : List Id) (qs : List Audit)
      → scan now (places d₁.consumers (d₁.turn + k) (d₁.consumers - k)) (head_view d subs rows ps qs) ≡ scan now (turns (head_view d₁ subs₁ rows₁ ps qs)) (head_view d₁ subs₁ rows₁ ps qs)

pub seeking-start : (now : ℕ) (subs rows events : List Row) (d : Head) → Scans subs d (length rows) (length events) → Seeking now subs rows events d subs rows events d 0
seeking-start now subs rows events d ok = record {
  within = omega arith;
  scans = ok;
  onward = onward-same d subs rows events;
  turn = refl;
  sent = refl;
  says = λ ps qs.
      let t : ℕ = d.turn in
      let n : d.consumers - 0 ≡ d.consumers = omega arith in
      ap₂ (λ (x y : ℕ). scan now (places d.consumers x y) (head_view d subs rows ps qs)) (add-zero t) n
      ∙ ap (λ (l : List ℕ). scan now l (head_view d subs rows ps qs)) (sym (turns-are d subs rows (length events) ok ps qs));
}

module _ (now : ℕ) (subs₁ rows₁ events₁ : List Row) (d₁ : Head) (subs rows events : List Row) (d : Head) (k : ℕ) (g : Seeking now subs₁ rows₁ events₁ d₁ subs rows events d k) where
  -- all have had their turn
  seeking-end : d₁.consumers ≤ k → (ps : List Id) (qs : List Audit)
      → scan now (turns (head_view d₁ subs₁ rows₁ ps qs)) (head_view d₁ subs₁ rows₁ ps qs) ≡ record { took = false; dest = head_view d subs rows ps qs; events = [] }
  unfolding scan
  seeking-end h ps qs =
      let n : d₁.consumers - k ≡ 0 = omega arith in
      sym (g.says ps qs) ∙ ap (λ (m : ℕ). scan now (places d₁.consumers (d₁.turn + k) m) (head_view d subs rows ps qs)) n

  module _ (less : k < d₁.consumers) where
    abbrev i : ℕ
    i = (d₁.turn + k) % d₁.consumers

    abbrev later : List ℕ
    later = places d₁.consumers (d₁.turn + (k + 1)) (d₁.consumers - (k + 1))

    split : places d₁.consumers (d₁.turn + k) (d₁.consumers - k) ≡ i ∷ later
    split =
        let n : d₁.consumers - k ≡ suc (d₁.consumers - (k + 1)) = omega arith in
        let m : suc (d₁.turn + k) ≡ d₁.turn + (k + 1) = omega arith in
        ap (places d₁.consumers (d₁.turn + k)) n ∙ ap (λ (x : ℕ). i ∷ places d₁.consumers x (d₁.consumers - (k + 1))) m

    pub place-within : i < d.consumers
    place-within = let m : i < d₁.consumers = mod-lt (d₁.turn + k) (omega arith) in omega (arith, g.onward.consumers)

    module _ (took : Bool) (r : Head) (subs' rows' events' : List Row) (v : Visited now i d took r subs rows events subs' rows' events') where
      turn-of : (ps : List Id) (qs : List Audit) → Turn
      turn-of ps qs = record { took = took; dest = head_view r subs' rows' ps qs; events = v.sends }

      -- it has taken nothing
      pub seeking-on : took ≡ false → Seeking now subs₁ rows₁ events₁ d₁ subs' rows' events' r (k + 1)
      unfolding turn-of
      seeking-on h = record {
        within = omega arith;
        scans = v.scans;
        onward = onward_then d₁ d r subs₁ rows₁ events₁ subs rows events subs' rows' events' g.onward v.onward;
        turn = v.turn h ∙ g.turn;
        sent = v.sent ∙ ap (λ (l : List Event). take d.events events ++ map event_words l) (v.quiet h) ∙ append-nil (take d.events events) ∙ g.sent;
        says = λ ps qs.
            sym (scan-on now i later (head_view d subs rows ps qs) (turn-of ps qs) (v.says ps qs) h)
            ∙ ap (λ (l : List ℕ). scan now l (head_view d subs rows ps qs)) (sym split)
            ∙ g.says ps qs;
      }

      -- it has taken an entry
      seeking-took : took ≡ true → (ps : List Id) (qs : List Audit)
          → scan now (turns (head_view d₁ subs₁ rows₁ ps qs)) (head_view d₁ subs₁ rows₁ ps qs) ≡ record { took = true; dest = head_view r subs' rows' ps qs; events = v.sends }
      unfolding turn-of
      seeking-took h ps qs =
          sym (g.says ps qs)
          ∙ ap (λ (l : List ℕ). scan now l (head_view d subs rows ps qs)) split
          ∙ scan-took now i later (head_view d subs rows ps qs) (turn-of ps qs) (v.says ps qs) h
          ∙ (λ j. record { took = h j; dest = head_view r subs' rows' ps qs; events = v.sends })

-- ---- scan after scan

-- nothing more is sent
rest : (l : List Row) (t : Dest) (o : Out) → o ≡ record { dest = t; events = [] } → ◌≡◌ {A = Sent} (record { dest = t; events = l }) (after l o)
rest l t o e = (λ j. record { dest = t; events = sym (append-nil l) j }) ∙ ap (after l) (sym e)

pub record Going (now : ℕ) (subs₀ rows₀ events₀ : List Row) (d₀ : Head) (subs rows events : List Row) (d : Head) : Type 0 where
  pub fuel : ℕ
  pub enough : d.waiting ≤ fuel
  pub scans : Scans subs d (length rows) (length events)
  pub onward : Onward d₀ d subs₀ rows₀ events₀ subs rows events
  pub says : (ps : List Id) (qs : List Audit)
      → after (take d.events events) (rounds (suc fuel) now (head_view d subs rows ps qs)) ≡ after (take d₀.events events₀) (served now (head_view d₀ subs₀ rows₀ ps qs))

pub going_start : (now : ℕ) (subs rows events : List Row) (d : Head) → Scans subs d (length rows) (length events) → Going now subs rows events d subs rows events d
unfolding served
going_start now subs rows events d ok = record {
  fuel = d.waiting;
  enough = omega arith;
  scans = ok;
  onward = onward-same d subs rows events;
  says = λ ps qs. ap (λ (n : ℕ). after (take d.events events) (rounds (suc n) now (head_view d subs rows ps qs))) (sym (pending-are d subs rows (length events) ok ps qs));
}

module _ (now : ℕ) (subs₀ rows₀ events₀ : List Row) (d₀ : Head) (subs rows events : List Row) (d : Head) where
  -- what is said of the destination and the events, and what else holds, is the contract
  leaves : Scans subs d (length rows) (length events) → Onward d₀ d subs₀ rows₀ events₀ subs rows events
      → ((ps : List Id) (qs : List Audit) → ◌≡◌ {A = Sent} (record { dest = head_view d subs rows ps qs; events = take d.events events }) (after (take d₀.events events₀) (served now (head_view d₀ subs₀ rows₀ ps qs))))
      → Leaves (served now) d₀ d subs₀ rows₀ events₀ subs rows events
  leaves ok on says = record {
    view = λ ps qs _. ap (λ (x : Sent). x.dest) (says ps qs);
    sent = λ ps qs _. ap (λ (x : Sent). x.events) (says ps qs);
    later = on.later;
    more = on.more;
    producers = on.producers;
    audits = on.audits;
    queue = on.queue;
    allowance = on.allowance;
    share = on.share;
    consumers = ok.consumers;
    used = ok.used;
    rows-used = ok.rows-used;
    strict = on.strict;
    subs-past = on.subs-past;
    rows-past = on.rows-past;
    subs-length = on.subs-length;
    rows-length = on.rows-length;
    events-length = on.events-length;
  }

  module _ (g : Going now subs₀ rows₀ events₀ d₀ subs rows events d) where
    -- nothing waits
    pub going-empty : d.waiting ≤ 0 → Leaves (served now) d₀ d subs₀ rows₀ events₀ subs rows events × Onward d₀ d subs₀ rows₀ events₀ subs rows events
    going-empty h =
        let none_left : (ps : List Id) (qs : List Audit) → (head_view d subs rows ps qs).pending ≡ [] =
        λ ps qs. length-nil (head_view d subs rows ps qs).pending (pending-are d subs rows (length events) g.scans ps qs ∙ omega arith) in
        (leaves g.scans g.onward (λ ps qs. rest (take d.events events) (head_view d subs rows ps qs) (rounds (suc g.fuel) now (head_view d subs rows ps qs)) (rounds-none (suc g.fuel) now (head_view d subs rows ps qs) (none_left ps qs)) ∙ g.says ps qs), g.onward)

-- a scan from there on
module _ (now : ℕ) (subs₀ rows₀ events₀ : List Row) (d₀ : Head) (subs₁ rows₁ events₁ : List Row) (d₁ : Head) (subs rows events : List Row) (d : Head) (k : ℕ)
    (g : Going now subs₀ rows₀ events₀ d₀ subs₁ rows₁ events₁ d₁)
    (s : Seeking now subs₁ rows₁ events₁ d₁ subs rows events d k)
  where
    on : Onward d₀ d subs₀ rows₀ events₀ subs rows events
    on = onward_then d₀ d₁ d subs₀ rows₀ events₀ subs₁ rows₁ events₁ subs rows events g.onward s.onward

    -- no one has taken anything
    pub going-stop : d₁.consumers ≤ k → Leaves (served now) d₀ d subs₀ rows₀ events₀ subs rows events × Onward d₀ d subs₀ rows₀ events₀ subs rows events
    going-stop h = (
      leaves now subs₀ rows₀ events₀ d₀ subs rows events d s.scans on
          (λ ps qs.
          let t : Dest = head_view d subs rows ps qs in
          let t₁ : Dest = head_view d₁ subs₁ rows₁ ps qs in
          (λ j. record { dest = t; events = s.sent j })
          ∙ rest (take d₁.events events₁) t (rounds (suc g.fuel) now t₁) (rounds-stop g.fuel now t₁ (record { took = false; dest = t; events = [] }) (seeking-end now subs₁ rows₁ events₁ d₁ subs rows events d k s h ps qs) refl)
          ∙ g.says ps qs),
      on,
    )

    -- one has
    module _ (less : k < d₁.consumers) (r : Head) (subs' rows' events' : List Row) (v : Visited now ((d₁.turn + k) % d₁.consumers) d true r subs rows events subs' rows' events') where
      pub going_less : r.waiting < d₁.waiting
      going_less = omega (arith, v.less refl, s.onward.waiting)

      pub going_on : Going now subs₀ rows₀ events₀ d₀ subs' rows' events' r
      going_on =
          let f : ℕ = g.fuel - 1 in
          let more : g.fuel ≡ suc f = omega (arith, going_less, g.enough) in
          let l : List Row = take d₁.events events₁ in
          let all : take r.events events' ≡ l ++ map event_words v.sends = v.sent ∙ ap (λ (x : List Row). x ++ map event_words v.sends) s.sent in
          record {
            fuel = f;
            enough = omega (arith, going_less, g.enough);
            scans = v.scans;
            onward = onward_then d₀ d r subs₀ rows₀ events₀ subs rows events subs' rows' events' on v.onward;
            says = λ ps qs.
                let t : Dest = head_view r subs' rows' ps qs in
                let t₁ : Dest = head_view d₁ subs₁ rows₁ ps qs in
                let o : Out = rounds (suc f) now t in
                let step : rounds (suc (suc f)) now t₁ ≡ record { dest = o.dest; events = v.sends ++ o.events } =
                rounds-on (suc f) now t₁ (record { took = true; dest = t; events = v.sends }) (seeking-took now subs₁ rows₁ events₁ d₁ subs rows events d k s less true r subs' rows' events' v refl ps qs) refl in
                ap (λ (x : List Row). after x o) all
                ∙ (λ j. record { dest = o.dest; events = (append_assoc l (map event_words v.sends) (map event_words o.events) ∙ ap (λ (x : List Row). l ++ x) (sym (map-append event_words v.sends o.events))) j })
                ∙ ap (after l) (sym step)
                ∙ ap (λ (n : ℕ). after l (rounds (suc n) now t₁)) (sym more)
                ∙ g.says ps qs;
          }
