-- Groups of w words one after the other, each of which begins with an identifier: a search, and the groups that stay. Assumes nothing.
use Rattle.std.specs.Prelude.{ℕ, zero, suc, ◌+◌, Bool, true, false, not, List, [], ◌∷◌, ◌++◌, eqb, length, take, drop}
use Rattle.words.specs.Pick.{whether◌then◌else◌}
use Rattle.words.specs.Words.{unsigned}
use Rattle.model.specs.Model.{same_id}
use Rattle.model.specs.declared.Id.{Id}
use Rattle.definition.specs.Words.{at}
use Rattle.definition.specs.Layout.{id_at}

-- the group at the front has the identifier
abbrev pub has_id : Id → List ℕ → Bool
has_id i l = same_id (id_at l) i

-- it goes: the whole identifier is the same, or its connection
abbrev pub goes : Bool → Id → List ℕ → Bool
goes true i l = has_id i l
goes false i l = eqb (at 0 l) i.conn

abbrev pub stays : Bool → Id → List ℕ → Bool
stays whole i l = not (goes whole i l)

-- which of n groups of w words is the first that passes a test; n where none does
unfoldable pub first_of : (List ℕ → Bool) → ℕ → ℕ → List ℕ → ℕ
first_of p w zero l = 0
first_of p w (suc n) l = whether p l then 0 else suc (first_of p w n (drop w l))

-- the groups that pass a test: how many, and their words
unfoldable pub kept_count : (List ℕ → Bool) → ℕ → ℕ → List ℕ → ℕ
kept_count p w zero l = 0
kept_count p w (suc n) l = whether p l then suc (kept_count p w n (drop w l)) else kept_count p w n (drop w l)

unfoldable pub kept_words : (List ℕ → Bool) → ℕ → ℕ → List ℕ → List ℕ
kept_words p w zero l = []
kept_words p w (suc n) l = whether p l then take w l ++ kept_words p w n (drop w l) else kept_words p w n (drop w l)

-- words written from a place on
abbrev pub written_from : ℕ → List ℕ → List ℕ → List ℕ
written_from at l h = take at h ++ (l ++ drop (at + length l) h)

-- of n groups from a place on those that pass a test stand there one after the other; the words after them stay as they were
unfoldable pub packed : (List ℕ → Bool) → ℕ → ℕ → ℕ → List ℕ → List ℕ
packed p at w n h = written_from at (kept_words p w n (drop at h)) h

-- the words of an identifier, and of an audit with no numbers yet
abbrev pub id_words : Id → List ℕ
id_words i = i.conn ∷ unsigned i.session ∷ unsigned i.value ∷ []

abbrev pub new_words : Id → List ℕ
new_words i = i.conn ∷ unsigned i.session ∷ unsigned i.value ∷ 0 ∷ 0 ∷ []
