-- Numbers of leaves: how one is cut, and that a row of them is read in one way.
use Rattle.std.proofs.Common.{arith, ◌≡◌, ◌≢◌, ℕ, suc, ◌-◌, ◌<◌, ◌≤◌, ◌^◌, true, false}
use Rattle.std.proofs.Common.{List, [], ◌∷◌, ◌++◌, length, take, drop, get_or, decimal, refl, sym, ap, ◌∙◌, subst, eqb, eq-eqb, Option, Some, None}
use Rattle.std.specs.Int.{IsInRange}
use Rattle.std.specs.Option.{IfSome, MatchOption}
use Rattle.std.specs.Str.{IsUtf8}
use Rattle.std.specs.List.{flat_map}
use Rattle.std.proofs.lemmas.Bool.{eqb-false}
use Rattle.std.proofs.lemmas.Fmt.{digits_decimal, decimal_injective, IsAscii-decimal}
use Rattle.std.proofs.lemmas.Str.{IsUtf8-from_ascii}
use Rattle.std.proofs.lemmas.Str.Ascii.{IsAscii-cons}
use Rattle.std.proofs.lemmas.Str.Parse.{numerals_by_value, tells_by_index}
use Rattle.std.proofs.lemmas.List.{length-append, take_at, drop_at}
use Rattle.text_words.specs.Cuts.{Each, Stops, front, back}
use Rattle.text_words.specs.Sequence.{Sequence, SameStart, IsDetermined}
use Rattle.text_words.proofs.CutLemmas.{SameCut, front_back, front_each, back_stops, one_cut}
use Rattle.text_words.proofs.SequenceLemmas.{Behind, begins, one_more}
use Rattle.message_blobs.specs.BlobIds.{leaf_text, AreLeafNumbers}
use Rattle.message_blobs.specs.declared.leaf_numbers.TheConstants.{MAX_LEAVES}
use Rattle.message_blobs.specs.reading.NumberReading.{is_no_mark, IsNumberBefore}

-- what holds where nothing is given
pub none_given : {A : Type 0} (r : Option A) (P : Type 0) (Q : A → Type 0) → r ≡ None → P → MatchOption r P Q
none_given None P Q e p = p
none_given (Some x) P Q e p = absurd (let w : Some x ≡ None = e in cc)

-- the first octet
abbrev pub first_of : List ℕ → ℕ
first_of [] = 0
first_of (c ∷ t) = c

-- what follows it
abbrev pub rest_of : List ℕ → List ℕ
rest_of [] = []
rest_of (c ∷ t) = t

-- ---- decimal numbers

digit_no_mark : (c : ℕ) → IsInRange 48 57 c → is_no_mark c ≡ true
digit_no_mark c r = grind arith

digits_no_mark : (ds : List ℕ) → ((i : ℕ) → i < length ds → IsInRange 48 57 (get_or ds i 0)) → Each is_no_mark ds
digits_no_mark [] r = tt
digits_no_mark (c ∷ cs) r = (digit_no_mark c (r 0 (omega arith)), digits_no_mark cs (λ i l. r (suc i) (omega arith)))

-- no digit of a number is a mark
pub decimal_no_mark : (n : ℕ) → n < 2 ^ 64 → Each is_no_mark (decimal n)
decimal_no_mark n fits = digits_no_mark (decimal n) (digits_decimal (numerals_by_value _ tells_by_index) n fits)

-- where the letter and a number are read from a text that has the octets
pub number_read : (r : Option ℕ) (letter : ℕ) (t s : List ℕ) → s ≡ t → IfSome r (λ n. s ≡ letter ∷ decimal n) → (r ≡ None → (n : ℕ) → n < 2 ^ 64 → s ≢ letter ∷ decimal n)
    → MatchOption r ((n : ℕ) → n < 2 ^ 64 → t ≢ letter ∷ decimal n) (λ n. t ≡ letter ∷ decimal n)
number_read None letter t s e some none = λ n fits is. none refl n fits (e ∙ is)
number_read (Some n) letter t s e some none = sym e ∙ some

-- a letter of ASCII and a number are a text
pub number_is_text : (letter n : ℕ) (t : List ℕ) → letter < 128 → n < 2 ^ 64 → t ≡ letter ∷ decimal n → IsUtf8 t
number_is_text letter n t ascii fits is =
    let P : List ℕ → Type 0 = λ u. IsUtf8 u in
    subst P (sym is) (IsUtf8-from_ascii (letter ∷ decimal n) (IsAscii-cons letter (decimal n) ascii (IsAscii-decimal n fits)))

-- ---- the number at the front

-- what follows the first octet up to the mark isn't the whole text
pub rest_shorter : (t d rest : List ℕ) → t ≡ 45 ∷ d → rest ≡ back is_no_mark d → length rest < length t
rest_shorter t d rest e r =
    let cut = ap (λ (u : List ℕ). length u) (front_back is_no_mark d) in
    let long = ap (λ (u : List ℕ). length u) e in
    let same = ap (λ (u : List ℕ). length u) r in
    omega (arith, cut, long, same, length-append (front is_no_mark d) (back is_no_mark d))

-- a text that begins with a mark is split before the next one
pub split_at_mark : (t d rest leaf behind : List ℕ) → t ≡ 45 ∷ d → rest ≡ back is_no_mark d → leaf ≡ take (length t - length rest) t → behind ≡ drop (length t - length rest) t
    → SameCut leaf (45 ∷ front is_no_mark d) behind (back is_no_mark d)
split_at_mark t d rest leaf behind e r f g =
    let whole : t ≡ (45 ∷ front is_no_mark d) ++ back is_no_mark d = e ∙ ap (λ (u : List ℕ). 45 ∷ u) (front_back is_no_mark d) in
    let long = ap (λ (u : List ℕ). length u) whole in
    let same = ap (λ (u : List ℕ). length u) r in
    let at : length (45 ∷ front is_no_mark d) ≡ length t - length rest = omega (arith, long, same, length-append (45 ∷ front is_no_mark d) (back is_no_mark d)) in
    record {
      front = f ∙ ap (take (length t - length rest)) whole ∙ take_at (45 ∷ front is_no_mark d) (back is_no_mark d) (length t - length rest) at;
      back = g ∙ ap (drop (length t - length rest)) whole ∙ drop_at (45 ∷ front is_no_mark d) (back is_no_mark d) (length t - length rest) at;
    }

-- a number begins with a mark
pub begins_with_mark : (t : List ℕ) (n : ℕ) (x rest : List ℕ) → t ≡ x ++ rest → IsNumberBefore n x rest → t ≡ 45 ∷ (decimal n ++ rest)
begins_with_mark t n x rest w i = w ∙ ap (λ (u : List ℕ). u ++ rest) i.spelled

-- the number at the front, where there is one, is what was split off
pub number_split : (t d leaf behind : List ℕ) → t ≡ 45 ∷ d → SameCut leaf (45 ∷ front is_no_mark d) behind (back is_no_mark d) → (n : ℕ) (x rest : List ℕ) → t ≡ x ++ rest
    → IsNumberBefore n x rest → leaf ≡ leaf_text n
number_split t d leaf behind e c n x rest w i =
    let whole : 45 ∷ d ≡ 45 ∷ (decimal n ++ rest) = sym e ∙ begins_with_mark t n x rest w i in
    let cut = one_cut is_no_mark (front is_no_mark d) (decimal n) (back is_no_mark d) rest (sym (front_back is_no_mark d) ∙ ap rest_of whole)
    (front_each is_no_mark d) (back_stops is_no_mark d) (decimal_no_mark n i.fits) i.ends in
    c.front ∙ ap (λ (u : List ℕ). 45 ∷ u) cut.front

-- what was split off is one number's
pub one_split : (m n : ℕ) (leaf : List ℕ) → m < 2 ^ 64 → n < 2 ^ 64 → leaf ≡ leaf_text m → leaf ≡ leaf_text n → m ≡ n
one_split m n leaf i j e f = decimal_injective m n i j (ap rest_of (sym e ∙ f))

-- what was split off is the number at the front
pub number_here : (t d leaf behind : List ℕ) (n : ℕ) → t ≡ 45 ∷ d → SameCut leaf (45 ∷ front is_no_mark d) behind (back is_no_mark d) → leaf ≡ leaf_text n → 1 ≤ n → n < 2 ^ 64
    → (x : List ℕ) × (t ≡ x ++ behind) × IsNumberBefore n x behind
number_here t d leaf behind n e c l some fits =
    let S : List ℕ → Type 0 = λ u. Stops is_no_mark u in
    let whole : t ≡ leaf ++ behind = e ∙ ap (λ (u : List ℕ). 45 ∷ u) (front_back is_no_mark d) ∙ (λ i. sym c.front i ++ sym c.back i) in
    (leaf, whole, record { spelled = l; some = some; fits = fits; ends = subst S (sym c.back) (back_stops is_no_mark d) })

-- ---- rows of numbers

one_number : (m n : ℕ) (x y s t : List ℕ) → x ++ s ≡ y ++ t → IsNumberBefore m x s → IsNumberBefore n y t → SameStart m n x y s t
one_number m n x y s t e i j =
    let whole : 45 ∷ (decimal m ++ s) ≡ 45 ∷ (decimal n ++ t) = ap (λ (u : List ℕ). u ++ s) (sym i.spelled) ∙ e ∙ ap (λ (u : List ℕ). u ++ t) j.spelled in
    let cut = one_cut is_no_mark (decimal m) (decimal n) s t (ap rest_of whole) (decimal_no_mark m i.fits) i.ends (decimal_no_mark n j.fits) j.ends in
    let same = decimal_injective m n i.fits j.fits cut.front in
    record { value = same; unit = i.spelled ∙ ap leaf_text same ∙ sym j.spelled; rest = cut.back }

not_empty : (n : ℕ) (x s : List ℕ) → IsNumberBefore n x s → x ≢ []
not_empty n x s i e = let w : 45 ∷ decimal n ≡ [] = sym i.spelled ∙ e in cc

-- a text begins with one number at most
pub numbers_determined : IsDetermined IsNumberBefore
numbers_determined = record { one = one_number; some = not_empty }

-- where numbers or nothing follow, a number or a root ends
pub stops_number : (ns : List ℕ) → Stops is_no_mark (flat_map leaf_text ns)
stops_number [] = tt
stops_number (n ∷ ns) = refl

-- the texts of numbers are a row of them
pub numbers_row : (ns : List ℕ) → AreLeafNumbers ns → Sequence IsNumberBefore ns (flat_map leaf_text ns)
numbers_row [] are = refl
numbers_row (n ∷ ns) are = record {
  unit = leaf_text n;
  rest = flat_map leaf_text ns;
  whole = refl;
  is = record { spelled = refl; some = are.0; fits = are.1; ends = stops_number ns };
  more = numbers_row ns are.2;
}

-- a row of numbers is their texts
pub row_text : (ns t : List ℕ) → Sequence IsNumberBefore ns t → t ≡ flat_map leaf_text ns
row_text [] t s = s
row_text (n ∷ ns) t s = s.whole ∙ ap (λ (u : List ℕ). u ++ s.rest) s.is.spelled ∙ ap (λ (u : List ℕ). leaf_text n ++ u) (row_text ns s.rest s.more)

-- those of a row are numbers of leaves
pub row_numbers : (ns t : List ℕ) → Sequence IsNumberBefore ns t → AreLeafNumbers ns
row_numbers [] t s = tt
row_numbers (n ∷ ns) t s = (s.is.some, s.is.fits, row_numbers ns s.rest s.more)

-- where more follows the numbers that were read, all are more than these
pub too_many : (vs rest b : List ℕ) → Behind IsNumberBefore vs rest b → rest ≢ [] → (all : List ℕ) → length all ≤ length vs → Sequence IsNumberBefore all b → ⊥
too_many vs rest b h some all few s = let w = h.back all s in by w.0 w.1 w.2
  where
    by : (more : List ℕ) → all ≡ vs ++ more → Sequence IsNumberBefore more rest → ⊥
    by [] w g = some g
    by (u ∷ us) w g = omega (arith, few, ap length w, length-append vs (u ∷ us))

-- ---- reading them in turn

-- no number was read
pub few_read : (vs : List ℕ) → vs ≡ [] → length vs ≤ MAX_LEAVES
few_read vs e = let n = ap (λ (u : List ℕ). length u) e in omega (arith, n)

-- where fewer than may be were read, one more may be
pub few_more : (vs ws : List ℕ) (n : ℕ) → ws ≡ vs ++ n ∷ [] → length vs ≤ MAX_LEAVES → eqb (length vs) MAX_LEAVES ≡ false → length ws ≤ MAX_LEAVES
few_more vs ws n e few other = let k = ap (λ (u : List ℕ). length u) e in omega (arith, k, few, eqb-false _ _ other, length-append vs (n ∷ []))

-- before the first number
pub none_read : (vs b : List ℕ) → vs ≡ [] → Behind IsNumberBefore vs b b
none_read vs b e = let P : List ℕ → Type 0 = λ u. Behind IsNumberBefore u b b in subst P (sym e) (begins IsNumberBefore b)

-- after one number more
pub one_read : (vs ws : List ℕ) (n : ℕ) (rest more b : List ℕ) → Behind IsNumberBefore vs rest b → (x : List ℕ) × (rest ≡ x ++ more) × IsNumberBefore n x more → ws ≡ vs ++ n ∷ []
    → Behind IsNumberBefore ws more b
one_read vs ws n rest more b h x e =
    let P : List ℕ → Type 0 = λ u. Behind IsNumberBefore u more b in
    subst P (sym e) (one_more numbers_determined vs n x.0 more rest b h x.1 x.2)

-- a text of some octets isn't empty
pub some_left : (t : List ℕ) → eqb (length t) 0 ≡ false → t ≢ []
some_left t e n = let z = eq-eqb (length t) 0 (ap (λ (u : List ℕ). length u) n) in cc
