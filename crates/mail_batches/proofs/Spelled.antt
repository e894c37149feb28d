-- What is read was spelled so.
use Rattle.std.proofs.Common.{◌≡◌, ℕ, zero, suc, ◌+◌, ◌^◌, ◌<◌, ◌≤◌, Bool, true, false, eqb, eqb-true, ltb, List, [], ◌∷◌, ◌++◌, length, get_or, take, drop, Option, Some, None, refl, sym, ap, subst, ◌∙◌, append_assoc, arith, if◌then◌else◌}
use Rattle.std.specs.Prelude.{IfSome}
use Rattle.std.specs.Int.{w32, w64, from_be_bytes}
use Rattle.std.specs.List.{flat_map, AllByRecursion}
use Rattle.std.proofs.lemmas.Bool.{eqb-false, ltb-true, ltb-false}
use Rattle.std.proofs.lemmas.List.{take-append-drop, get_or-take, get_or-drop, length-take}
use Rattle.std.proofs.lemmas.List.Concat.{flat_map-cons}
use Rattle.std.proofs.lemmas.Nat.{be_bytes_4, be_bytes_8}
use Rattle.mail_batches.specs.Items.{half, long, text, texts, optional, FitsText, FitsTexts, IsDelimiter}
use Rattle.mail_batches.specs.reading.Reading.{◌>>=◌, number_at, text_at, some_texts_at, texts_at, optional_at}
use Rattle.mail_batches.proofs.Found.{one_some, some_none}

-- each is an octet
pub record AreOctets (s : List ℕ) : Type 0 where
  pub small : (i : ℕ) → get_or s i 0 < 256

-- what stands before the rest, and that the rest is octets
pub record Stands (s front rest : List ℕ) : Type 0 where
  pub whole : s ≡ front ++ rest
  pub octets : AreOctets rest

past_end : (s : List ℕ) (i : ℕ) → length s ≤ i → get_or s i 0 ≡ 0
past_end [] i le = refl
past_end (x ∷ s) zero le = absurd (omega arith)
past_end (x ∷ s) (suc i) le = past_end s i (omega arith)

first_octets : (n : ℕ) (s : List ℕ) → AreOctets s → (i : ℕ) → get_or (take n s) i 0 < 256
first_octets n s a i = by (ltb i n) refl
  where
    by : (b : Bool) → ltb i n ≡ b → get_or (take n s) i 0 < 256
    by true e = let lt : i < n = ltb-true i n e in rw (get_or-take n s i 0 lt) (a.small i)
    by false e =
        let le = ltb-false i n e in
        let short = length-take n s in
        let none : get_or (take n s) i 0 ≡ 0 = past_end (take n s) i (omega (arith, le, short)) in
        rw none (omega arith)

pub other_octets : (n : ℕ) (s : List ℕ) → AreOctets s → AreOctets (drop n s)
other_octets n s a = record { small = λ i. rw (get_or-drop n s i 0) (a.small (n + i)) }

-- ---- a test that gave something

pub if_some : {A : Type 0} (b : Bool) (o : Option A) (x : A) → (if b then None else o) ≡ Some x → (b ≡ false) × (o ≡ Some x)
if_some true o x e = absurd (some_none x (sym e))
if_some false o x e = (refl, e)

pub bound : {A B : Type 0} (o : Option A) (f : A → Option B) (y : B) → (o >>= f) ≡ Some y → (x : A) × (o ≡ Some x) × (f x ≡ Some y)
bound None f y e = absurd (some_none y (sym e))
bound (Some x) f y e = (x, refl, e)

abbrev pub NumberAndRest : Type 0
NumberAndRest = ℕ × List ℕ

-- ---- numbers

below_4 : (bs : List ℕ) → ((i : ℕ) → get_or bs i 0 < 256) → from_be_bytes w32 bs < 2 ^ 32
below_4 bs small = let a = small 0 in let b = small 1 in let c = small 2 in let d = small 3 in omega (arith, a, b, c, d)

below_8 : (bs : List ℕ) → ((i : ℕ) → get_or bs i 0 < 256) → from_be_bytes w64 bs < 2 ^ 64
below_8 bs small =
    let a = small 0 in let b = small 1 in let c = small 2 in let d = small 3 in
    let e = small 4 in let f = small 5 in let g = small 6 in let h = small 7 in
    omega (arith, a, b, c, d, e, f, g, h)

pub half_spelled : (s : List ℕ) (n : ℕ) (rest : List ℕ) → AreOctets s → number_at w32 s ≡ Some (n, rest) → (n < 2 ^ 32) × Stands s (half n) rest
half_spelled s n rest a e =
    let test = if_some (ltb (length s) 4) (let p : NumberAndRest = (from_be_bytes w32 (take 4 s), drop 4 s) in Some p) (n, rest) e in
    let enough : 4 ≤ length s = ltb-false _ _ test.0 in
    let pair : ◌≡◌ {A = NumberAndRest} (from_be_bytes w32 (take 4 s), drop 4 s) (n, rest) = one_some _ _ test.1 in
    let number : from_be_bytes w32 (take 4 s) ≡ n = ap (λ (p : NumberAndRest). p.0) pair in
    let others : drop 4 s ≡ rest = ap (λ (p : NumberAndRest). p.1) pair in
    let short = length-take 4 s in
    let len : length (take 4 s) ≡ 4 = omega (arith, short, enough) in
    let again : half n ≡ take 4 s = be_bytes_4 (take 4 s) n len (first_octets 4 s a) (sym number) in (
      subst (λ (k : ℕ). k < 2 ^ 32) number (below_4 (take 4 s) (first_octets 4 s a)),
      record {
        whole = sym (take-append-drop 4 s) ∙ ap (λ (l : List ℕ). l ++ drop 4 s) (sym again) ∙ ap (λ (l : List ℕ). half n ++ l) others;
        octets = subst AreOctets others (other_octets 4 s a);
      },
    )

pub long_spelled : (s : List ℕ) (n : ℕ) (rest : List ℕ) → AreOctets s → number_at w64 s ≡ Some (n, rest) → (n < 2 ^ 64) × Stands s (long n) rest
long_spelled s n rest a e =
    let test = if_some (ltb (length s) 8) (let p : NumberAndRest = (from_be_bytes w64 (take 8 s), drop 8 s) in Some p) (n, rest) e in
    let enough : 8 ≤ length s = ltb-false _ _ test.0 in
    let pair : ◌≡◌ {A = NumberAndRest} (from_be_bytes w64 (take 8 s), drop 8 s) (n, rest) = one_some _ _ test.1 in
    let number : from_be_bytes w64 (take 8 s) ≡ n = ap (λ (p : NumberAndRest). p.0) pair in
    let others : drop 8 s ≡ rest = ap (λ (p : NumberAndRest). p.1) pair in
    let short = length-take 8 s in
    let len : length (take 8 s) ≡ 8 = omega (arith, short, enough) in
    let again : long n ≡ take 8 s = be_bytes_8 (take 8 s) n len (first_octets 8 s a) (sym number) in (
      subst (λ (k : ℕ). k < 2 ^ 64) number (below_8 (take 8 s) (first_octets 8 s a)),
      record {
        whole = sym (take-append-drop 8 s) ∙ ap (λ (l : List ℕ). l ++ drop 8 s) (sym again) ∙ ap (λ (l : List ℕ). long n ++ l) others;
        octets = subst AreOctets others (other_octets 8 s a);
      },
    )

-- ---- one field after the other

pub joined : (s a b r q : List ℕ) → s ≡ a ++ r → r ≡ b ++ q → s ≡ (a ++ b) ++ q
joined s a b r q p e = p ∙ ap (λ (l : List ℕ). a ++ l) e ∙ sym (append_assoc a b q)

pub both : (s a b r q : List ℕ) → Stands s a r → Stands r b q → Stands s (a ++ b) q
both s a b r q p e = record { whole = joined s a b r q p.whole e.whole; octets = e.octets }

abbrev pub TextAndRest : Type 0
TextAndRest = List ℕ × List ℕ

pub text_spelled : (s octets rest : List ℕ) → AreOctets s → text_at s ≡ Some (octets, rest) → FitsText octets × Stands s (text octets) rest
unfolding text_at
text_spelled s octets rest a e =
    let f : NumberAndRest → Option TextAndRest = λ n. if ltb (length n.1) n.0 then None else Some (take n.0 n.1, drop n.0 n.1) in
    let b = bound (number_at w64 s) f (octets, rest) e in
    let n : NumberAndRest = b.0 in
    let number = long_spelled s n.0 n.1 a b.1 in
    let test = if_some (ltb (length n.1) n.0) (let p : TextAndRest = (take n.0 n.1, drop n.0 n.1) in Some p) (octets, rest) b.2 in
    let enough : n.0 ≤ length n.1 = ltb-false _ _ test.0 in
    let pair : ◌≡◌ {A = TextAndRest} (take n.0 n.1, drop n.0 n.1) (octets, rest) = one_some _ _ test.1 in
    let front : take n.0 n.1 ≡ octets = ap (λ (p : TextAndRest). p.0) pair in
    let others : drop n.0 n.1 ≡ rest = ap (λ (p : TextAndRest). p.1) pair in
    let short = length-take n.0 n.1 in
    let same = ap (λ (l : List ℕ). length l) front in
    let len : length octets ≡ n.0 = omega (arith, short, enough, same) in
    let small : n.0 < 2 ^ 64 = number.0 in
    let split : n.1 ≡ octets ++ rest = sym (take-append-drop n.0 n.1) ∙ ap (λ (l : List ℕ). l ++ drop n.0 n.1) front ∙ ap (λ (l : List ℕ). octets ++ l) others in
    let begins : s ≡ long (length octets) ++ n.1 = number.1.whole ∙ ap (λ (k : ℕ). long k ++ n.1) (sym len) in (
      omega (arith, len, small),
      record {
        whole = joined s (long (length octets)) octets n.1 rest begins split;
        octets = subst AreOctets others (other_octets n.0 n.1 number.1.octets);
      },
    )

abbrev TextsAndRest : Type 0
TextsAndRest = List (List ℕ) × List ℕ

some_texts_spelled : (n : ℕ) (s : List ℕ) (ns : List (List ℕ)) (rest : List ℕ) → AreOctets s → some_texts_at n s ≡ Some (ns, rest)
    → (length ns ≡ n) × AllByRecursion FitsText ns × Stands s (flat_map text ns) rest
unfolding some_texts_at
some_texts_spelled zero s ns rest a e =
    let pair : ◌≡◌ {A = TextsAndRest} ([], s) (ns, rest) = one_some _ _ e in
    let names : [] ≡ ns = ap (λ (p : TextsAndRest). p.0) pair in
    let others : s ≡ rest = ap (λ (p : TextsAndRest). p.1) pair in
    subst (λ (l : List (List ℕ)). (length l ≡ zero) × AllByRecursion FitsText l × Stands s (flat_map text l) rest) names
    (refl, tt, record { whole = others; octets = subst AreOctets others a })
some_texts_spelled (suc n) s ns rest a e =
    let g : TextAndRest → TextsAndRest → Option TextsAndRest = λ f p. Some (f.0 ∷ p.0, p.1) in
    let f : TextAndRest → Option TextsAndRest = λ t. some_texts_at n t.1 >>= g t in
    let first = bound (text_at s) f (ns, rest) e in
    let t : TextAndRest = first.0 in
    let head = text_spelled s t.0 t.1 a first.1 in
    let more = bound (some_texts_at n t.1) (g t) (ns, rest) first.2 in
    let others : TextsAndRest = more.0 in
    let tail = some_texts_spelled n t.1 others.0 others.1 head.1.octets more.1 in
    let pair : ◌≡◌ {A = TextsAndRest} (t.0 ∷ others.0, others.1) (ns, rest) = one_some _ _ more.2 in
    let names : t.0 ∷ others.0 ≡ ns = ap (λ (p : TextsAndRest). p.0) pair in
    let ends : others.1 ≡ rest = ap (λ (p : TextsAndRest). p.1) pair in
    let stands : Stands s (flat_map text (t.0 ∷ others.0)) others.1 =
    subst (λ (l : List ℕ). Stands s l others.1) (sym (flat_map-cons text t.0 others.0)) (both s (text t.0) (flat_map text others.0) t.1 others.1 head.1 tail.2) in
    let count : length (t.0 ∷ others.0) ≡ suc n = let l = tail.0 in omega (arith, l) in
    let all : (length (t.0 ∷ others.0) ≡ suc n) × AllByRecursion FitsText (t.0 ∷ others.0) × Stands s (flat_map text (t.0 ∷ others.0)) rest =
    (count, (head.0, tail.1), subst (Stands s (flat_map text (t.0 ∷ others.0))) ends stands) in
    subst (λ (l : List (List ℕ)). (length l ≡ suc n) × AllByRecursion FitsText l × Stands s (flat_map text l) rest) names all

pub texts_spelled : (s : List ℕ) (ns : List (List ℕ)) (rest : List ℕ) → AreOctets s → texts_at s ≡ Some (ns, rest) → FitsTexts ns × Stands s (texts ns) rest
unfolding texts_at
texts_spelled s ns rest a e =
    let f : NumberAndRest → Option TextsAndRest = λ n. some_texts_at n.0 n.1 in
    let b = bound (number_at w64 s) f (ns, rest) e in
    let n : NumberAndRest = b.0 in
    let number = long_spelled s n.0 n.1 a b.1 in
    let some = some_texts_spelled n.0 n.1 ns rest number.1.octets b.2 in
    let small : n.0 < 2 ^ 64 = number.0 in
    let len : length ns ≡ n.0 = some.0 in
    let begins : Stands s (long (length ns)) n.1 = subst (λ (k : ℕ). Stands s (long k) n.1) (sym len) number.1 in
    (record { count = omega (arith, len, small); each = some.1 }, both s (long (length ns)) (flat_map text ns) n.1 rest begins some.2)

-- ---- a delimiter

pub optional_spelled : (s : List ℕ) (o : Option ℕ) (rest : List ℕ) → AreOctets s → optional_at s ≡ Some (o, rest) → IfSome o IsDelimiter × Stands s (optional o) rest
unfolding optional_at
optional_spelled [] o rest a e = absurd (some_none _ (sym e))
optional_spelled (d ∷ t) o rest a e = by (eqb d 0) refl e
  where
    small : (i : ℕ) → get_or t i 0 < 256
    small i = a.small (suc i)

    stands : (x : Option ℕ) → optional x ≡ d ∷ [] → t ≡ rest → Stands (d ∷ t) (optional x) rest
    stands x is others = record {
      whole = ap (λ (l : List ℕ). d ∷ l) others ∙ ap (λ (l : List ℕ). l ++ rest) (sym is);
      octets = record { small = λ i. subst (λ (l : List ℕ). get_or l i 0 < 256) others (small i) };
    }

    by : (b : Bool) → eqb d 0 ≡ b → ◌≡◌ {A = Option (Option ℕ × List ℕ)} (Some (if b then None else Some d, t)) (Some (o, rest)) → IfSome o IsDelimiter × Stands (d ∷ t) (optional o) rest
    by true zero_is h =
        let pair : ◌≡◌ {A = Option ℕ × List ℕ} (None, t) (o, rest) = one_some _ _ h in
        let none : None ≡ o = ap (λ (p : Option ℕ × List ℕ). p.0) pair in
        let others : t ≡ rest = ap (λ (p : Option ℕ × List ℕ). p.1) pair in
        subst (λ (x : Option ℕ). IfSome x IsDelimiter × Stands (d ∷ t) (optional x) rest) none
        (tt, stands None (ap (λ (n : ℕ). n ∷ []) (sym (eqb-true d 0 zero_is))) others)
    by false other h =
        let pair : ◌≡◌ {A = Option ℕ × List ℕ} (Some d, t) (o, rest) = one_some _ _ h in
        let some : Some d ≡ o = ap (λ (p : Option ℕ × List ℕ). p.0) pair in
        let others : t ≡ rest = ap (λ (p : Option ℕ × List ℕ). p.1) pair in
        let small : d < 256 = a.small 0 in
        subst (λ (x : Option ℕ). IfSome x IsDelimiter × Stands (d ∷ t) (optional x) rest) some
        ((eqb-false d 0 other, small), stands (Some d) refl others)
