-- Encoded words that the grammar would tear are found lump by lump.
use Rattle.std.proofs.Common.{◌≡◌, ◌≢◌, inr, ℕ, ◌+◌, ◌<◌, ◌≤◌, Bool, true, false, not, ◌||◌, ◌&&◌, MatchBool, List, [], ◌∷◌, ◌++◌, length, drop, refl, sym, ap, ◌∙◌, subst, arith, Option, Some, None}
use Rattle.std.specs.List.{list_any, list_all}
use Rattle.std.proofs.lemmas.List.{length-append, length-drop, drop_at, drop-drop, drop_all}
use Rattle.header_tokens.specs.Kinds.{first_octet}
use Rattle.loose_addresses.specs.Lumps.{is_separator, IsWordShape, IsLump, Whole, Octet, Separator}
use Rattle.loose_addresses.specs.Torn.{is_special, AreBefore, IsTorn, IsUntorn}
use Rattle.loose_addresses.specs.reading.ElementSteps.{LumpOf}
use Rattle.loose_addresses.specs.reading.TornSteps.{is_no_special, BeginsTorn, HasUnit, AreUntorn, NoneBefore}
use Rattle.loose_addresses.proofs.LumpLemmas.{one_lump, some_lump}
use Rattle.loose_addresses.proofs.ShapeLemmas.{one_shape}

-- ---- one word

any_not_all : (t : List ℕ) → list_any is_special t ≡ not (list_all is_no_special t)
any_not_all [] = refl
any_not_all (c ∷ t) = by (is_special c) (any_not_all t)
  where
    by : (q : Bool) → list_any is_special t ≡ not (list_all is_no_special t) → (q || list_any is_special t) ≡ not (not q && list_all is_no_special t)
    by true e = refl
    by false e = e

-- what the code tells of the word at the front
pub word_told : (t word rest : List ℕ) (all : Bool) → IsWordShape word → t ≡ word ++ rest → all ≡ list_all is_no_special word
    → MatchBool (not all) (BeginsTorn t) (BeginsTorn t → ⊥)
word_told t word rest true s e a = λ b.
    let w : b.word ≡ word = one_shape b.word word b.rest rest (sym b.whole ∙ e) b.shape s in
    let f : list_any is_special word ≡ true = ap (list_any is_special) (sym w) ∙ b.special in
    let g : list_any is_special word ≡ false = any_not_all word ∙ ap not (sym a) in
    absurd (let h : true ≡ false = sym f ∙ g in cc)
word_told t word rest false s e a = record { word = word; rest = rest; whole = e; shape = s; special = any_not_all word ∙ ap not (sym a) }

-- ---- one lump

pub unit_lump : (n : ℕ) (t : List ℕ) → LumpOf n t → HasUnit n t
unit_lump n t u = record { value = Some u.unit; unit = u.unit; rest = u.rest; whole = u.whole; is = u.is; counted = u.counted }

pub unit_separator : (t : List ℕ) → is_separator (first_octet t) ≡ true → HasUnit 1 t
unit_separator [] e = absurd cc
unit_separator (c ∷ t) e = record { value = None; unit = c ∷ []; rest = t; whole = refl; is = Separator c t e; counted = refl }

pub record UnitMoves (at n : ℕ) (t : List ℕ) : Type 0 where
  pub some : 0 < n
  pub within : at + n ≤ length t

pub unit_moves : (at n : ℕ) (t : List ℕ) → at ≤ length t → HasUnit n (drop at t) → UnitMoves at n t
unit_moves at n t le u = record {
  some = positive u.unit (some_lump u.value u.unit u.rest u.is) u.counted;
  within = omega (arith, u.counted, ap length u.whole, length-append u.unit u.rest, length-drop at t);
}
  where
    positive : (x : List ℕ) → x ≢ [] → n ≡ length x → 0 < n
    positive [] k h = absurd (k refl)
    positive (c ∷ x) k h = omega (arith, h)

unit_untorn : (v : Option (List ℕ)) (x s : List ℕ) → IsLump v x s → (BeginsTorn (x ++ s) → ⊥) → AreUntorn (v ∷ [])
unit_untorn _ _ _ (Whole x s f) n = (λ w. by (list_any is_special x) refl w, tt)
  where
    by : (q : Bool) → list_any is_special x ≡ q → IsWordShape x → q ≡ false
    by true e w = absurd (n (record { word = x; rest = s; whole = refl; shape = w; special = e }))
    by false e w = refl
unit_untorn _ _ _ (Octet c s p b) n = (λ w. let e = w.whole in absurd cc, tt)
unit_untorn _ _ _ (Separator c s p) n = tt

-- ---- lumps at the front of a text

before_more : (vs : List (Option (List ℕ))) (v : Option (List ℕ)) (x r q t : List ℕ) → AreBefore vs r t → r ≡ x ++ q → IsLump v x q → AreBefore (vs ++ v ∷ []) q t
before_more [] v x r q t h e l = record { unit = x; rest = q; whole = h ∙ e; is = l; more = refl }
before_more (w ∷ vs) v x r q t h e l = record { unit = h.unit; rest = h.rest; whole = h.whole; is = h.is; more = before_more vs v x r q h.rest h.more e l }

untorn_more : (vs : List (Option (List ℕ))) (v : Option (List ℕ)) → AreUntorn vs → AreUntorn (v ∷ []) → AreUntorn (vs ++ v ∷ [])
untorn_more [] v h g = g
untorn_more (None ∷ vs) v h g = untorn_more vs v h g
untorn_more (Some u ∷ vs) v h g = (h.0, untorn_more vs v h.1 g)

untorn_right : (vs ws : List (Option (List ℕ))) → AreUntorn (vs ++ ws) → AreUntorn ws
untorn_right [] ws h = h
untorn_right (None ∷ vs) ws h = untorn_right vs ws h
untorn_right (Some u ∷ vs) ws h = untorn_right vs ws h.1

before_len : (vs : List (Option (List ℕ))) (r t : List ℕ) → AreBefore vs r t → length r ≤ length t
before_len [] r t h = omega (arith, ap length h)
before_len (v ∷ vs) r t h = omega (arith, before_len vs r h.rest h.more, ap length h.whole, length-append h.unit h.rest)

record Behind (us ls : List (Option (List ℕ))) (s r : List ℕ) : Type 0 where
  more : List (Option (List ℕ))
  whole : ls ≡ us ++ more
  are : AreBefore more s r

-- lumps up to a place begin with those up to an earlier one
behind : (us ls : List (Option (List ℕ))) (r s t : List ℕ) → AreBefore us r t → AreBefore ls s t → length s ≤ length r → Behind us ls s r
behind [] ls r s t g h le = record { more = ls; whole = refl; are = subst (λ (u : List ℕ). AreBefore ls s u) g h }
behind (u ∷ us) [] r s t g h le =
    absurd (omega (arith, le, ap length h, ap length g.whole, length-append g.unit g.rest, positive g.unit (some_lump u g.unit g.rest g.is), before_len us r g.rest g.more))
  where
    positive : (x : List ℕ) → x ≢ [] → 0 < length x
    positive [] k = absurd (k refl)
    positive (c ∷ x) k = omega arith
behind (u ∷ us) (l ∷ ls) r s t g h le =
    let o = one_lump u l g.unit h.unit g.rest h.rest (sym g.whole ∙ h.whole) g.is h.is in
    let p = behind us ls r s h.rest (subst (λ (x : List ℕ). AreBefore us r x) o.rest g.more) h.more le in
    record {
      more = p.more;
      whole = ap (λ (x : Option (List ℕ)). x ∷ ls) (sym o.value) ∙ ap (λ (xs : List (Option (List ℕ))). u ∷ xs) p.whole;
      are = p.are;
    }

-- ---- the walk

pub none_first : (t : List ℕ) → NoneBefore 0 t
none_first t = record { units = []; are = refl; none = tt }

pub none_step : (at n : ℕ) (t : List ℕ) → NoneBefore at t → HasUnit n (drop at t) → (BeginsTorn (drop at t) → ⊥) → NoneBefore (at + n) t
none_step at n t f u b =
    let e : u.rest ≡ drop (at + n) t = sym (sym (drop-drop n at t) ∙ ap (drop n) u.whole ∙ drop_at u.unit u.rest n (sym u.counted)) in
    record {
      units = f.units ++ u.value ∷ [];
      are = before_more f.units u.value u.unit (drop at t) (drop (at + n) t) t f.are (u.whole ∙ ap (λ (x : List ℕ). u.unit ++ x) e)
          (subst (λ (x : List ℕ). IsLump u.value u.unit x) e u.is);
      none = untorn_more f.units u.value f.none
          (unit_untorn u.value u.unit u.rest u.is (λ h. b (subst (λ (x : List ℕ). BeginsTorn x) (sym u.whole) h)));
    }

pub torn_here : (at : ℕ) (t : List ℕ) → NoneBefore at t → BeginsTorn (drop at t) → IsTorn t
torn_here at t f b = record {
  front = f.units;
  word = b.word;
  rest = b.rest;
  are = subst (λ (u : List ℕ). AreBefore f.units u t) b.whole f.are;
  shape = b.shape;
  special = b.special;
}

some_word : (x y : List ℕ) → IsWordShape x → x ++ y ≡ [] → ⊥
some_word x y w e = let f = ap (λ (u : List ℕ). u ++ y) (sym w.whole) ∙ e in absurd cc

pub none_torn : (at : ℕ) (t : List ℕ) → length t ≤ at → NoneBefore at t → IsUntorn t
none_torn at t le f k = by p.more p.are (untorn_right k.front p.more (subst (λ (us : List (Option (List ℕ))). AreUntorn us) p.whole f.none))
  where
    p : Behind k.front f.units [] (k.word ++ k.rest)
    p = behind k.front f.units (k.word ++ k.rest) [] t k.are (subst (λ (u : List ℕ). AreBefore f.units u t) (drop_all at t le) f.are) (omega arith)

    same : (m : Option (List ℕ)) (ms : List (Option (List ℕ))) → m ≡ Some k.word → AreUntorn (m ∷ ms) → ⊥
    same None ms e n = absurd cc
    same (Some u) ms e n =
        let h : u ≡ k.word = cc in
        let g = subst (λ (x : List ℕ). IsWordShape x → list_any is_special x ≡ false) h n.0 in
        absurd (let b : true ≡ false = sym k.special ∙ g k.shape in cc)

    by : (ms : List (Option (List ℕ))) → AreBefore ms [] (k.word ++ k.rest) → AreUntorn ms → ⊥
    by [] a n = some_word k.word k.rest k.shape a
    by (m ∷ ms) a n =
        let o = one_lump m (Some k.word) a.unit k.word a.rest k.rest (sym a.whole) a.is (Whole k.word k.rest (inr k.shape)) in
        same m ms o.value n

-- ---- what the code answers

pub torn_there : (b : Bool) (t : List ℕ) → MatchBool b (IsTorn t) (IsUntorn t) → b ≡ true → IsTorn t
torn_there b t told is = subst (λ (x : Bool). MatchBool x (IsTorn t) (IsUntorn t)) is told

pub torn_nowhere : (b : Bool) (t : List ℕ) → MatchBool b (IsTorn t) (IsUntorn t) → b ≡ false → IsUntorn t
torn_nowhere b t told is = subst (λ (x : Bool). MatchBool x (IsTorn t) (IsUntorn t)) is told
