-- The copy for one consumer of a topic: the rows before it, in flight, held and after it come to what the definition says. Assumes nothing.
use mathlib.Core.Path.{◌≡◌, refl, sym, ap, ap₂, ◌∙◌, subst⁻¹}
use mathlib.Core.Bool.{Bool, true, false, not, ◌||◌}
use mathlib.Core.List.{List, [], ◌∷◌, ◌++◌, append_assoc, map}
use mathlib.Core.Option.{Option}
use Prim.Native.Nat.{ℕ, ◌+◌, ◌-◌, ◌≤◌, ◌^◌}
use native.Mathlib.Omega.{arith}
use borrow.Author.Tests.{leb-true, leb-false, eq-eqb, ne_eqb}
use lib.Dec.{eqb, leb}
use lib.IntN.{ℤ, pos}
use lib.ListN.{length, take, drop, length-append, length-drop, length-map, take-append-drop}
use lib.Seq.{slice, length-take-le}
use Rattle.words.proofs.Words.{signed-pos}
use Rattle.words.proofs.Tests.{by-test}
use Rattle.stats.specs.declared.Stats.{Stats}
use Rattle.entry.specs.Entry.{expired, entry_of, row_of, expired_row}
use Rattle.definition.specs.Base as Base
use Rattle.definition.specs.Base.{whether◌then◌else◌, keep, tally}
use Rattle.definition.specs.Types.{Entry, topic, with_tpending}
use Rattle.definition.specs.Types as Def
use Rattle.definition.specs.Consumer.{◌⊕◌, Step, zero_stats, add_expired, add_discarded}
use Rattle.definition.specs.Destination.{insert, Trimmed, trim, fan_out}
use Rattle.definition.specs.Layout.{Row, entry_strict}
use Rattle.definition.proofs.Tests.{by-if, if-false, or-no-left}
use Rattle.definition.proofs.Lists.{all_keep, map-drop}
use Rattle.definition.proofs.Stored.{same-browser}
use Rattle.table.specs.Table.{place_from, place_of, insert_row, close_gap, remove_rows, removed_rows}
use Rattle.table.proofs.Search.{place-from-within}
use Rattle.table.proofs.Lists.{guarded₃}
use Rattle.table.proofs.Segments.{tally-map, keep-map, kept-length, tally-most}
use Rattle.table.proofs.Laws.{close-length, close-after, close-parts, insert-length, insert-after, remove-length, remove-after, gone-parts, remove-parts}
use Rattle.consumers.specs.declared.Sub.{Sub}
use Rattle.consumers.specs.Consumers.{sub_view, accepts_of, with_held}
use Rattle.consumers.proofs.Laws.{accepts-sub}
use Rattle.consumers.proofs.Strict.{all_rest}
use Rattle.engine.specs.declared.fanning.Gone.{Gone}
use Rattle.engine.specs.declared.fanning.Copied.{Copied}
use Rattle.engine.specs.Storing.{holds}
use Rattle.engine.specs.Copies.{over_limit, gone_of, trimmed, put_in, copied, copied_rows}
use Rattle.engine.proofs.Insert.{insert-placed}
use Rattle.engine.proofs.RowParts.{with_row, with-row-length, own-row-strict, with-row-strict, put-in}

-- ---- small laws

pub over-most : (limit n : ℕ) → over_limit limit n ≤ n
over-most limit n = by-test (eqb limit 0) (λ t. rw t (omega arith)) (λ t. rw t (omega arith))

-- so many have expired, and so many are discarded
abbrev pub lost : ℕ → ℕ → Stats
lost k o = record { enqueued = 0; dequeued = 0; expired = k; discarded = o; dispatched = 0 }

pub lost-is : (k o : ℕ) → lost k o ≡ add_expired k ⊕ add_discarded o
lost-is k o = let x : k ≡ k + 0 = omega arith in let y : o ≡ 0 + o = omega arith in ap₂ lost x y

-- the first o rows of a part go
cut-front : (at o n : ℕ) (a l c z : List Row) → length a ≡ at → o ≤ length l → at + length l + length c ≡ n
    → close_gap at o n (a ++ (l ++ (c ++ z))) ≡ a ++ (drop o l ++ (c ++ drop (length (drop o l ++ c)) (take o l ++ ((drop o l ++ c) ++ z))))
cut-front at o n a l c z la few lc =
    let left : List Row = drop o l in
    let cut : l ++ (c ++ z) ≡ take o l ++ ((left ++ c) ++ z) =
    ap (λ (x : List Row). x ++ (c ++ z)) (sym (take-append-drop o l)) ∙ append_assoc (take o l) left (c ++ z) ∙ ap (λ (x : List Row). take o l ++ x) (sym (append_assoc left c z)) in
    let size : at + o + length (left ++ c) ≡ n = omega (arith, length-append left c, length-drop o l) in
    ap (λ (x : List Row). close_gap at o n (a ++ x)) cut
    ∙ close-parts at o n a (take o l) (left ++ c) z la (length-take-le o l few) size
    ∙ ap (λ (x : List Row). a ++ x) (append_assoc left c (drop (length (left ++ c)) (take o l ++ ((left ++ c) ++ z))))

-- ---- what goes over the limit

abbrev pub gone : ℕ → ℕ → Gone
gone k o = record { expired = k; over = o }

module _ (clock limit from n used : ℕ) (rows : List Row) where
  abbrev k : ℕ
  k = removed_rows (expired_row clock) from (from + n) used rows

  pub expired-few : k ≤ n
  unfolding removed_rows
  expired-few = guarded₃ (λ (x : ℕ). x ≤ n) from (from + n) used (length rows) (tally (expired_row clock) (slice from (from + n) rows)) 0
      (λ h l b. omega (arith, tally-most (expired_row clock) from (from + n) rows h (omega arith))) (omega arith)

  pub gone-none : over_limit limit n ≡ 0 → (gone 0 0 ≡ gone_of clock limit from n used rows) × (rows ≡ trimmed clock limit from n used rows)
  unfolding gone_of trimmed
  gone-none h = rw (eq-eqb (over_limit limit n) 0 h) (refl, refl)

  pub gone-some : (over_limit limit n ≡ 0 → ⊥)
      → (gone k (over_limit limit (n - k)) ≡ gone_of clock limit from n used rows)
      × (close_gap from (over_limit limit (n - k)) (used - k) (remove_rows (expired_row clock) from (from + n) used rows) ≡ trimmed clock limit from n used rows)
  unfolding gone_of trimmed
  gone-some h = rw (ne_eqb (over_limit limit n) 0 h) (refl, refl)

  pub gone-few : (gone_of clock limit from n used rows).expired + (gone_of clock limit from n used rows).over ≤ n
  unfolding gone_of
  gone-few = by-if (λ (g : Gone). g.expired + g.over ≤ n) (eqb (over_limit limit n) 0) (gone 0 0) (gone k (over_limit limit (n - k)))
      (λ _. omega arith) (λ _. omega (arith, expired-few, over-most limit (n - k)))

  trimmed-length : length (trimmed clock limit from n used rows) ≡ length rows
  unfolding trimmed
  trimmed-length = by-if (λ (l : List Row). length l ≡ length rows) (eqb (over_limit limit n) 0) rows (close_gap from (over_limit limit (n - k)) (used - k) (remove_rows (expired_row clock) from (from + n) used rows))
      (λ _. refl) (λ _. close-length from (over_limit limit (n - k)) (used - k) (remove_rows (expired_row clock) from (from + n) used rows) ∙ remove-length (expired_row clock) from (from + n) used rows)

  trimmed-past : (m : ℕ) → used ≤ m → drop m (trimmed clock limit from n used rows) ≡ drop m rows
  unfolding trimmed
  trimmed-past m h = by-if (λ (l : List Row). drop m l ≡ drop m rows) (eqb (over_limit limit n) 0) rows (close_gap from (over_limit limit (n - k)) (used - k) (remove_rows (expired_row clock) from (from + n) used rows))
      (λ _. refl)
      (λ _. close-after from (over_limit limit (n - k)) (used - k) (remove_rows (expired_row clock) from (from + n) used rows) m (omega arith) ∙ remove-after (expired_row clock) from (from + n) used rows m (omega arith))

-- the same test as the definition's
over-test : (limit n : ℕ) → eqb (over_limit limit n) 0 ≡ (eqb limit 0 || leb n limit)
over-test limit n = by-test (eqb limit 0) (λ t. rw t refl)
    (λ t. rw t (by-test (leb n limit) (λ u. eq-eqb (n - limit) 0 (omega (arith, leb-true n limit u)) ∙ sym u) (λ u. ne_eqb (n - limit) 0 (λ q. omega (arith, q, leb-false n limit u)) ∙ sym u)))

-- what is left of the held rows all, between the rows a and c, and what went
record Left (now limit : ℕ) (a all c : List Row) (g : Gone) (rows' : List Row) : Type 0 where
  held : List Row
  free : List Row
  rows_are : rows' ≡ a ++ (held ++ (c ++ free))
  holding : length held + (g.expired + g.over) ≡ length all
  strict : Base.all entry_strict all ≡ true → Base.all entry_strict held ≡ true
  list : map entry_of held ≡ (trim now limit (map entry_of all)).list
  counts : lost g.expired g.over ≡ (trim now limit (map entry_of all)).counts

module _ (now limit from n used : ℕ) (a all c z : List Row) (la : length a ≡ from) (ln : length all ≡ n) (lc : from + n + length c ≡ used) (soon : now ≤ 2 ^ 62) where
  abbrev table : List Row
  table = a ++ (all ++ (c ++ z))

  abbrev p : Row → Bool
  p = expired_row now

  abbrev es : List Entry
  es = map entry_of all

  test-is : eqb (over_limit limit n) 0 ≡ (eqb limit 0 || leb (length es) limit)
  test-is = over-test limit n ∙ ap (λ (m : ℕ). eqb limit 0 || leb m limit) (sym (length-map all entry_of ∙ ln))

  module _ (t : eqb (over_limit limit n) 0 ≡ true) where
    whole : trim now limit es ≡ record { list = es; counts = zero_stats }
    unfolding trim
    whole = rw (sym test-is ∙ t)

    left-all : Left now limit a all c (gone_of now limit from n used table) (trimmed now limit from n used table)
    unfolding gone_of trimmed
    left-all = rw t (record {
      held = all;
      free = z;
      rows_are = refl;
      holding = omega arith;
      strict = λ b. b;
      list = ap (λ (r : Trimmed). r.list) (sym whole);
      counts = ap (λ (r : Trimmed). r.counts) (sym whole);
    })

  module _ (t : eqb (over_limit limit n) 0 ≡ false) where
    abbrev live : List Row
    live = keep (λ r. not (p r)) all

    abbrev over : ℕ
    over = length live - limit

    abbrev lives : List Entry
    lives = keep (λ e. not (expired (pos now) e)) es

    fewer : trim now limit es ≡ record { list = drop (length lives - limit) lives; counts = add_expired (tally (expired (pos now)) es) ⊕ add_discarded (length lives - limit) }
    unfolding trim
    fewer = rw (sym test-is ∙ t)

    -- the words' test is the definition's
    lives-are : lives ≡ map entry_of live
    lives-are = keep-map entry_of (λ e. not (expired (pos now) e)) all ∙ ap (λ (x : ℤ). map entry_of (keep (λ r. not (expired x (entry_of r))) all)) (sym (signed-pos now (omega arith)))

    expired-are : tally (expired (pos now)) es ≡ tally p all
    expired-are = tally-map entry_of (expired (pos now)) all ∙ ap (λ (x : ℤ). tally (λ r. expired x (entry_of r)) all) (sym (signed-pos now (omega arith)))

    over-are : length lives - limit ≡ over
    over-are = ap (λ (m : ℕ). m - limit) (ap length lives-are ∙ length-map live entry_of)

    -- so many went
    expired-is : removed_rows p from (from + n) used table ≡ tally p all
    expired-is = gone-parts p from (from + n) used a all c z la (ap (λ (m : ℕ). from + m) ln) lc

    some-limit : eqb limit 0 ≡ false
    some-limit = or-no-left (eqb limit 0) (leb (length es) limit) (sym test-is ∙ t)

    over-is : over_limit limit (n - removed_rows p from (from + n) used table) ≡ over
    over-is = if-false 0 (n - removed_rows p from (from + n) used table - limit) some-limit ∙ omega (arith, expired-is, kept-length p all, ln)

    abbrev rest : List Row
    rest = drop (length live + length c) (all ++ (c ++ z))

    abbrev free : List Row
    free = drop (length (drop over live ++ c)) (take over live ++ ((drop over live ++ c) ++ rest))

    rows-come : close_gap from (over_limit limit (n - removed_rows p from (from + n) used table)) (used - removed_rows p from (from + n) used table) (remove_rows p from (from + n) used table)
        ≡ a ++ (drop over live ++ (c ++ free))
    rows-come =
        let size : from + length live + length c ≡ used - tally p all = omega (arith, kept-length p all, ln) in
        ap₂ (λ (o m : ℕ). close_gap from o (used - m) (remove_rows p from (from + n) used table)) over-is expired-is
        ∙ ap (close_gap from over (used - tally p all)) (remove-parts p from (from + n) used a all c z la (ap (λ (m : ℕ). from + m) ln) lc)
        ∙ cut-front from over (used - tally p all) a live c rest la (omega arith) size

    left-live : Left now limit a all c (gone_of now limit from n used table) (trimmed now limit from n used table)
    unfolding gone_of trimmed
    left-live = rw t (record {
      held = drop over live;
      free = free;
      rows_are = rows-come;
      holding = omega (arith, expired-is, over-is, length-drop over live, kept-length p all);
      strict = λ b. all_rest entry_strict over live (all_keep entry_strict (λ r. not (p r)) all b);
      list = sym (map-drop entry_of over live) ∙ sym (ap (λ (r : Trimmed). r.list) fewer ∙ ap₂ drop over-are lives-are);
      counts = ap₂ lost expired-is over-is ∙ lost-is (tally p all) over ∙ sym (ap (λ (r : Trimmed). r.counts) fewer ∙ ap₂ (λ (x y : ℕ). add_expired x ⊕ add_discarded y) expired-are over-are);
    })

  -- either way
  left : (rs : List Row) → rs ≡ table → Left now limit a all c (gone_of now limit from n used rs) (trimmed now limit from n used rs)
  left rs is = subst⁻¹ (λ (l : List Row). Left now limit a all c (gone_of now limit from n used l) (trimmed now limit from n used l)) is (by-test (eqb (over_limit limit n) 0) left-all left-live)

-- ---- the copy by the test

-- a consumer with one row more, and what went
abbrev pub got : Sub → ℕ → Gone → Copied
got s used g = let n = g.expired + g.over in record { sub = with_held (s.held + 1 - n) s; used = used + 1 - n; expired = g.expired; over = g.over }

module _ (clock limit : ℕ) (e : Entry) (base : ℕ) (s : Sub) (used : ℕ) (rows : List Row) where
  pub copied-no : accepts_of s e ≡ false
      → (record { sub = s; used = used; expired = 0; over = 0 } ≡ copied clock limit e base s used rows) × (rows ≡ copied_rows clock limit e base s used rows)
  unfolding copied copied_rows
  copied-no h = rw h (refl, refl)

  abbrev went : Gone
  went = gone_of clock limit (base + s.inflight) (s.held + 1) (used + 1) (put_in e base s used rows)

  pub copied-yes : accepts_of s e ≡ true
      → (got s used went ≡ copied clock limit e base s used rows)
      × (trimmed clock limit (base + s.inflight) (s.held + 1) (used + 1) (put_in e base s used rows) ≡ copied_rows clock limit e base s used rows)
  unfolding copied copied_rows
  copied-yes h = rw h (refl, refl)

  -- no row more in flight, at most one held, and no more gone than there were
  pub copied-few : ((copied clock limit e base s used rows).sub.inflight ≡ s.inflight) × ((copied clock limit e base s used rows).sub.held ≤ s.held + 1)
      × ((copied clock limit e base s used rows).expired + (copied clock limit e base s used rows).over ≤ s.held + 1)
  unfolding copied
  copied-few = by-if (λ (r : Copied). (r.sub.inflight ≡ s.inflight) × (r.sub.held ≤ s.held + 1) × (r.expired + r.over ≤ s.held + 1)) (accepts_of s e) (got s used went) (record { sub = s; used = used; expired = 0; over = 0 })
      (λ _. (refl, omega arith, gone-few clock limit (base + s.inflight) (s.held + 1) (used + 1) (put_in e base s used rows))) (λ _. (refl, omega arith, omega arith))

-- a consumer with what a trimmed list keeps
abbrev given : Def.Sub → Trimmed → Step
given v r = record { sub = with_tpending r.list v; counts = r.counts; events = [] }

-- ---- what a copy leaves

-- f in flight, h held, c the later rows in use
pub record Copy (now limit : ℕ) (e : Entry) (a f h c : List Row) (s : Sub) (used : ℕ) (rows : List Row) (r : Copied) (rows' : List Row) : Type 0 where
  pub held : List Row
  pub free : List Row
  pub rows_are : rows' ≡ a ++ (f ++ (held ++ (c ++ free)))
  pub flying : r.sub.inflight ≡ s.inflight
  pub holding : length held ≡ r.sub.held
  pub strict : Base.all entry_strict h ≡ true → Base.all entry_strict held ≡ true
  pub sub : sub_view topic r.sub f held ≡ (fan_out now limit e (sub_view topic s f h)).sub
  pub counts : lost r.expired r.over ≡ (fan_out now limit e (sub_view topic s f h)).counts
  pub uses : r.used + s.held ≡ used + r.sub.held
  pub most : r.sub.held ≤ s.held + (whether accepts_of s e then 1 else 0)
  pub few : r.expired + r.over + r.used ≤ used + 1
  pub size : length rows' ≡ length rows
  pub past : drop 512 rows' ≡ drop 512 rows

-- the consumer's rows begin at base
module _ (now limit : ℕ) (e : Entry) (a f h c : List Row) (base : ℕ) (s : Sub) (used : ℕ) (lh : length h ≡ s.held) where
  abbrev v : Def.Sub
  v = sub_view topic s f h

  -- it does not accept the entry
  module _ (y : List Row) (no : accepts_of s e ≡ false) where
    refuses : fan_out now limit e v ≡ record { sub = v; counts = zero_stats; events = [] }
    unfolding fan_out
    refuses = rw (accepts-sub topic s f h e ∙ no)

    copy-no : Copy now limit e a f h c s used (a ++ (f ++ (h ++ (c ++ y)))) (copied now limit e base s used (a ++ (f ++ (h ++ (c ++ y))))) (copied_rows now limit e base s used (a ++ (f ++ (h ++ (c ++ y)))))
    unfolding copied copied_rows
    copy-no = rw no (record {
      held = h;
      free = y;
      rows_are = refl;
      flying = refl;
      holding = lh;
      strict = λ b. b;
      sub = ap (λ (t : Step). t.sub) (sym refuses);
      counts = ap (λ (t : Step). t.counts) (sym refuses);
      uses = refl;
      most = omega arith;
      few = omega arith;
      size = refl;
      past = refl;
    })

  -- it does
  module _ (z : List Row) (x : Row) (yes : accepts_of s e ≡ true) (la : length a ≡ base) (lf : length f ≡ s.inflight) (lc : base + s.inflight + s.held + length c ≡ used)
      (room : used + 1 ≤ 512) (soon : now ≤ 2 ^ 62) (row_is : entry_of (row_of e 0 0 0) ≡ e) (absent : holds e.seq h ≡ false)
    where
      abbrev rows : List Row
      rows = a ++ (f ++ (h ++ (c ++ x ∷ z)))

      abbrev row : Row
      row = row_of e 0 0 0

      abbrev from : ℕ
      from = base + s.inflight

      -- the held rows with the copy
      abbrev all : List Row
      all = with_row (place_from from e.seq h - from) row h

      all-length : length all ≡ s.held + 1
      all-length = with-row-length (place_from from e.seq h - from) row h ∙ ap (λ (n : ℕ). n + 1) lh

      front : length (a ++ f) ≡ from
      front = length-append a f ∙ ap₂ (λ (m n : ℕ). m + n) la lf

      put : put_in e base s used rows ≡ (a ++ f) ++ (all ++ (c ++ z))
      put =
          let lt : from + length h ≡ from + s.held = ap (λ (n : ℕ). from + n) lh in
          ap (λ (l : List Row). insert_row (place_of from (from + s.held) e.seq l) used row l) (sym (append_assoc a f (h ++ (c ++ x ∷ z))))
          ∙ put-in from (from + s.held) used e.seq row x (a ++ f) h c z front lt lc

      inserted : map entry_of all ≡ insert e (map entry_of h)
      inserted = let w = place-from-within from e.seq h in insert-placed from (place_from from e.seq h - from) h row e row_is absent (omega arith)

      gets : fan_out now limit e v ≡ given v (trim now limit (map entry_of all))
      unfolding fan_out sub_view
      gets = rw (accepts-sub topic s f h e ∙ yes) (ap (λ (l : List Entry). given v (trim now limit l)) (sym inserted))

      abbrev g : Gone
      g = gone_of now limit from (s.held + 1) (used + 1) (put_in e base s used rows)

      l : Left now limit (a ++ f) all c g (trimmed now limit from (s.held + 1) (used + 1) (put_in e base s used rows))
      l = left now limit from (s.held + 1) (used + 1) (a ++ f) all c z front all-length (omega arith) soon (put_in e base s used rows) put

      few : g.expired + g.over ≤ s.held + 1
      few = gone-few now limit from (s.held + 1) (used + 1) (put_in e base s used rows)

      viewed : (n : ℕ) → sub_view topic (with_held n s) f l.held ≡ with_tpending (trim now limit (map entry_of all)).list v
      unfolding sub_view
      viewed n =
          ap₂ (λ (b : Option (List Entry)) (m : List Entry). Def.with_browser b (with_tpending m v)) (same-browser s.browser (map entry_of l.held) (map entry_of h)) l.list

      copy-yes : Copy now limit e a f h c s used rows (copied now limit e base s used rows) (copied_rows now limit e base s used rows)
      unfolding copied copied_rows
      copy-yes = rw yes (record {
        held = l.held;
        free = l.free;
        rows_are = l.rows_are ∙ append_assoc a f (l.held ++ (c ++ l.free));
        flying = refl;
        holding = omega (arith, l.holding, all-length);
        strict = λ b. l.strict (with-row-strict (place_from from e.seq h - from) row h (own-row-strict e row_is) b);
        sub = viewed (s.held + 1 - (g.expired + g.over)) ∙ ap (λ (t : Step). t.sub) (sym gets);
        counts = l.counts ∙ ap (λ (t : Step). t.counts) (sym gets);
        uses = omega (arith, few, lc);
        most = rw yes (omega arith);
        few = omega (arith, few, lc);
        size = trimmed-length now limit from (s.held + 1) (used + 1) (put_in e base s used rows) ∙ insert-length (place_of from (from + s.held) e.seq rows) used row rows;
        past = trimmed-past now limit from (s.held + 1) (used + 1) (put_in e base s used rows) 512 room ∙ insert-after (place_of from (from + s.held) e.seq rows) used row rows 512 room;
      })

-- either way, where the rows are those parts
module _ (now limit : ℕ) (e : Entry) (a f h c y rows : List Row) (base : ℕ) (s : Sub) (used : ℕ) (is : rows ≡ a ++ (f ++ (h ++ (c ++ y))))
    (la : length a ≡ base) (lf : length f ≡ s.inflight) (lh : length h ≡ s.held) (lc : base + s.inflight + s.held + length c ≡ used)
    (room : used + (whether accepts_of s e then 1 else 0) ≤ 512) (long : 512 ≤ length rows)
    (soon : now ≤ 2 ^ 62) (row_is : entry_of (row_of e 0 0 0) ≡ e) (absent : holds e.seq h ≡ false)
  where
    free-length : used + length y ≡ length rows
    free-length = omega (arith, lc, la, lf, lh, ap length is, length-append a (f ++ (h ++ (c ++ y))), length-append f (h ++ (c ++ y)), length-append h (c ++ y), length-append c y)

    pub copy : Copy now limit e a f h c s used rows (copied now limit e base s used rows) (copied_rows now limit e base s used rows)
    copy = by-test (accepts_of s e) (λ t. some y refl t) (λ t. rw is (copy-no now limit e a f h c base s used lh y t))
      where
        some : (l : List Row) → y ≡ l → accepts_of s e ≡ true → Copy now limit e a f h c s used rows (copied now limit e base s used rows) (copied_rows now limit e base s used rows)
        some [] q t =
            let one : used + 1 ≤ 512 = rw t at room in
            let none : length y ≡ 0 = ap length q in
            absurd (omega (arith, free-length))
        some (x ∷ z) q t =
            let one : used + 1 ≤ 512 = rw t at room in
            let p : rows ≡ a ++ (f ++ (h ++ (c ++ x ∷ z))) = is ∙ ap (λ (l : List Row). a ++ (f ++ (h ++ (c ++ l)))) q in
            rw p (copy-yes now limit e a f h c base s used lh z x t la lf lc one soon row_is absent)
