-- The loops over groups of words, a turn at a time: k of n groups are behind, and the next stands at a place. Assumes nothing.
use mathlib.Core.Path.{◌≡◌, refl, sym, ap, ap₂, ◌∙◌}
use mathlib.Core.Bool.{Bool, true, false, true≢false}
use Rattle.std.specs.Prelude.{Option, Some, None, MatchOption}
use Rattle.std.specs.Option.{is_some}
use borrow.Author.Tests.{lt-ltb, le-ltb}
use lib.Dec.{ltb}
use mathlib.Core.List.{List, ◌++◌}
use Prim.Native.Nat.{ℕ, suc, ◌+◌, ◌-◌, ◌*◌, ◌≤◌, ◌<◌}
use native.Mathlib.Omega.{arith}
use lib.ListN.{length, take, drop, length-drop}
use lib.Seq.{slice, length-slice, drop-drop}
use Rattle.table.proofs.Lists.{slice-take}
use Rattle.producers.specs.Groups.{first_of, kept_count, kept_words, written_from, packed}
use Rattle.producers.proofs.Words.{over-length, over-after, over_none, over-join}
use Rattle.producers.proofs.Groups.{mul-less, first-here, first_next, kept-length, kept-stays, kept_goes}

-- ---- room for what is left

pub room-start : (n w at size : ℕ) → at + n * w ≤ size → at + (n - 0) * w ≤ size
room-start n w at size h = let e : n - 0 ≡ n = omega arith in rw e h

pub room_next : (n k w from size : ℕ) → k < n → from + (n - k) * w ≤ size → from + w + (n - (k + 1)) * w ≤ size
room_next n k w from size h r =
    let e : n - k ≡ suc (n - (k + 1)) = omega arith in
    let m : suc (n - (k + 1)) * w ≡ w + (n - (k + 1)) * w = mul-less (n - (k + 1)) w in
    let s : from + suc (n - (k + 1)) * w ≤ size = rw e at r in
    omega arith

pub room-here : (n k w from size : ℕ) → k < n → from + (n - k) * w ≤ size → from + w ≤ size
room-here n k w from size h r = omega (arith, room_next n k w from size h r)

-- ---- one group on

next-left : (n k : ℕ) → k < n → n - k - 1 ≡ n - (k + 1)
next-left n k h = omega arith

-- ---- a search

module _ (p : List ℕ → Bool) (w n : ℕ) (h : List ℕ) where
  pub search-start : (at : ℕ) → 0 + first_of p w (n - 0) (drop at h) ≡ first_of p w n (drop at h)
  search-start at = let e : n - 0 ≡ n = omega arith in rw e (omega arith)

  pub search-here : (k from : ℕ) → k < n → p (drop from h) ≡ true → k + first_of p w (n - k) (drop from h) ≡ k
  search-here k from b t = let e : first_of p w (n - k) (drop from h) ≡ 0 = first-here p w (n - k) (drop from h) (omega arith) t in omega arith

  pub search-next : (k from : ℕ) → k < n → p (drop from h) ≡ false → k + 1 + first_of p w (n - (k + 1)) (drop (from + w) h) ≡ k + first_of p w (n - k) (drop from h)
  search-next k from b t =
      let e : first_of p w (n - k) (drop from h) ≡ suc (first_of p w (n - k - 1) (drop w (drop from h))) = first_next p w (n - k) (drop from h) (omega arith) t in
      let f : first_of p w (n - k - 1) (drop w (drop from h)) ≡ first_of p w (n - (k + 1)) (drop (from + w) h) = ap₂ (λ (m : ℕ) (l : List ℕ). first_of p w m l) (next-left n k b) (drop-drop w from h) in
      omega arith

  pub search-none : (k from : ℕ) → n ≤ k → k ≤ n → k + first_of p w (n - k) (drop from h) ≡ k
  unfolding first_of
  search-none k from b c = let e : n - k ≡ 0 = omega arith in rw e (omega arith)

-- ---- groups that stay move down

module _ (p : List ℕ → Bool) (w n : ℕ) where
  pub count-start : (at : ℕ) (h : List ℕ) → 0 + kept_count p w (n - 0) (drop at h) ≡ kept_count p w n (drop at h)
  count-start at h = let e : n - 0 ≡ n = omega arith in rw e (omega arith)

  pub pack-start : (at : ℕ) (h : List ℕ) → written_from at (kept_words p w (n - 0) (drop at h)) h ≡ packed p at w n h
  unfolding packed
  pack-start at h = let e : n - 0 ≡ n = omega arith in rw e

  pub pack-end : (k from to : ℕ) (h : List ℕ) → n ≤ k → written_from to (kept_words p w (n - k) (drop from h)) h ≡ h
  unfolding kept_words
  pack-end k from to h b = let e : n - k ≡ 0 = omega arith in rw e (over_none to h)

  pub count-end : (k from kept : ℕ) (h : List ℕ) → n ≤ k → kept + kept_count p w (n - k) (drop from h) ≡ kept
  unfolding kept_count
  count-end k from kept h b = let e : n - k ≡ 0 = omega arith in rw e (omega arith)

  module _ (k from : ℕ) (h : List ℕ) (b : k < n) where
    abbrev later : List ℕ → List ℕ
    later l = kept_words p w (n - (k + 1)) (drop (from + w) l)

    -- the next goes
    pub pack-goes : (to : ℕ) → p (drop from h) ≡ false → written_from to (later h) h ≡ written_from to (kept_words p w (n - k) (drop from h)) h
    pack-goes to t =
        let e = (kept_goes p w (n - k) (drop from h) (omega arith) t).1 in
        let f : kept_words p w (n - k - 1) (drop w (drop from h)) ≡ later h = ap₂ (λ (m : ℕ) (l : List ℕ). kept_words p w m l) (next-left n k b) (drop-drop w from h) in
        ap (λ (l : List ℕ). written_from to l h) (sym (e ∙ f))

    pub count-goes : (kept : ℕ) → p (drop from h) ≡ false → kept + kept_count p w (n - (k + 1)) (drop (from + w) h) ≡ kept + kept_count p w (n - k) (drop from h)
    count-goes kept t =
        let e = (kept_goes p w (n - k) (drop from h) (omega arith) t).0 in
        let f : kept_count p w (n - k - 1) (drop w (drop from h)) ≡ kept_count p w (n - (k + 1)) (drop (from + w) h) = ap₂ (λ (m : ℕ) (l : List ℕ). kept_count p w m l) (next-left n k b) (drop-drop w from h) in
        ap (λ (m : ℕ). kept + m) (sym (e ∙ f))

    -- the next stays, and its words have moved to where the next one goes
    module _ (to : ℕ) (a : to ≤ from) (r : from + (n - k) * w ≤ length h) (t : p (drop from h) ≡ true) where
      abbrev group : List ℕ
      group = slice from (from + w) h

      abbrev moved : List ℕ
      moved = written_from to group h

      group-long : length group ≡ w
      group-long = length-slice from (from + w) h (room-here n k w from (length h) b r) ∙ omega arith

      pub moved_length : length moved ≡ length h
      moved_length = over-length to group h (omega (arith, group-long, room-here n k w from (length h) b r))

      moved-after : drop (from + w) moved ≡ drop (from + w) h
      moved-after = over-after to group h (from + w) (omega (arith, group-long)) (omega (arith, group-long, room-here n k w from (length h) b r))

      kept-is : kept_words p w (n - k) (drop from h) ≡ group ++ later h
      kept-is =
          let e = (kept-stays p w (n - k) (drop from h) (omega arith) t).1 in
          let f : kept_words p w (n - k - 1) (drop w (drop from h)) ≡ later h = ap₂ (λ (m : ℕ) (l : List ℕ). kept_words p w m l) (next-left n k b) (drop-drop w from h) in
          let i : from + w - from ≡ w = omega arith in
          let g : group ≡ take w (drop from h) = slice-take from (from + w) h (omega arith) ∙ ap (λ (m : ℕ). take m (drop from h)) i in
          e ∙ ap₂ (λ (x y : List ℕ). x ++ y) (sym g) f

      pub pack-stays : written_from (to + w) (later moved) moved ≡ written_from to (kept_words p w (n - k) (drop from h)) h
      pack-stays =
          let s : from + w + (n - (k + 1)) * w ≤ length h = room_next n k w from (length h) b r in
          let y : length (drop (from + w) h) ≡ length h - (from + w) = length-drop (from + w) h in
          let l : length (later h) ≤ (n - (k + 1)) * w = kept-length p w (n - (k + 1)) (drop (from + w) h) (omega arith) in
          ap (λ (x : List ℕ). written_from (to + w) (kept_words p w (n - (k + 1)) x) moved) moved-after
          ∙ over-join to (to + w) group (later h) h (omega (arith, group-long)) (omega arith)
          ∙ ap (λ (x : List ℕ). written_from to x h) (sym kept-is)

      pub count-stays : (kept : ℕ) → kept + 1 + kept_count p w (n - (k + 1)) (drop (from + w) moved) ≡ kept + kept_count p w (n - k) (drop from h)
      count-stays kept =
          let e = (kept-stays p w (n - k) (drop from h) (omega arith) t).0 in
          let f : kept_count p w (n - k - 1) (drop w (drop from h)) ≡ kept_count p w (n - (k + 1)) (drop (from + w) moved) = ap₂ (λ (m : ℕ) (l : List ℕ). kept_count p w m l) (next-left n k b) (drop-drop w from h ∙ sym moved-after) in
          omega arith

-- the loop: kept of k groups stay, those after place from are to come, and the next that stays goes to place to
pub record Packing (p : List ℕ → Bool) (w n at : ℕ) (h₀ h : List ℕ) (from to kept k : ℕ) : Type 0 where
  pub few : k ≤ n
  pub less : kept ≤ k
  pub down : to ≤ from
  pub room : from + (n - k) * w ≤ length h
  pub long : length h ≡ length h₀
  pub count : kept + kept_count p w (n - k) (drop from h) ≡ kept_count p w n (drop at h₀)
  pub words : written_from to (kept_words p w (n - k) (drop from h)) h ≡ packed p at w n h₀

module _ (p : List ℕ → Bool) (w n at : ℕ) (h₀ : List ℕ) where
  pub packing-holds : at + n * w ≤ length h₀ → Packing p w n at h₀ h₀ at at 0 0
  packing-holds r = record {
    few = omega arith;
    less = omega arith;
    down = omega arith;
    room = room-start n w at (length h₀) r;
    long = refl;
    count = count-start p w n at h₀;
    words = pack-start p w n at h₀;
  }

  module _ (h : List ℕ) (from to kept k : ℕ) (i : Packing p w n at h₀ h from to kept k) (b : k < n) where
    pub packing-goes : p (drop from h) ≡ false → Packing p w n at h₀ h (from + w) to kept (k + 1)
    packing-goes t = record {
      few = omega arith;
      less = omega arith;
      down = omega arith;
      room = room_next n k w from (length h) b i.room;
      long = i.long;
      count = count-goes p w n k from h b kept t ∙ i.count;
      words = pack-goes p w n k from h b to t ∙ i.words;
    }

    pub packing-stays : p (drop from h) ≡ true → Packing p w n at h₀ (written_from to (slice from (from + w) h) h) (from + w) (to + w) (kept + 1) (k + 1)
    packing-stays t =
        let long = moved_length p w n k from h b to i.down i.room t in
        let room : from + w + (n - (k + 1)) * w ≤ length h = room_next n k w from (length h) b i.room in
        record {
          few = omega arith;
          less = omega arith;
          down = omega arith;
          room = omega arith;
          long = long ∙ i.long;
          count = count-stays p w n k from h b to i.down i.room t kept ∙ i.count;
          words = pack-stays p w n k from h b to i.down i.room t ∙ i.words;
        }

  pub packing-ends : (h : List ℕ) (from to kept k : ℕ) → Packing p w n at h₀ h from to kept k → n ≤ k → (kept ≡ kept_count p w n (drop at h₀)) × (h ≡ packed p at w n h₀)
  packing-ends h from to kept k i b = (sym (count-end p w n k from kept h b) ∙ i.count, sym (pack-end p w n k from to h b) ∙ i.words)

-- ---- whether one was found

pub some-below : (r : Option ℕ) (n first : ℕ) → MatchOption r (n ≡ first) (λ k. (k < n) × (k ≡ first)) → is_some r ≡ true → ltb first n ≡ true
some-below (Some k) n first h t = lt-ltb first n (omega (arith, h.0, h.1))
some-below None n first h t = absurd (true≢false (sym t))

pub none-below : (r : Option ℕ) (n first : ℕ) → MatchOption r (n ≡ first) (λ k. (k < n) × (k ≡ first)) → is_some r ≡ false → ltb first n ≡ false
none-below (Some k) n first h t = absurd (true≢false t)
none-below None n first h t = le-ltb first n (omega (arith, h))
