-- The token at the front is read, and what is read is the token at the front.
use Rattle.std.proofs.Common.{◌≡◌, ◌≢◌, ◌⊎◌, take, ℕ, ◌+◌, ◌<◌, Bool, true, false, List, [], ◌∷◌, ◌++◌, length, cond, refl, sym, ap, ◌∙◌, subst, inl, inr, arith, append_assoc}
use Rattle.std.proofs.Common.{Option, Some, None, eqb}
use Rattle.std.proofs.lemmas.Bool.{cond-true, cond-false, eqb-true, eqb-false}
use Rattle.std.proofs.lemmas.List.{length-append, take_at}
use Rattle.header_tokens.specs.declared.token.Alphabet.{Alphabet}
use Rattle.header_tokens.specs.declared.token.Alphabet.TheVariants as alphabet
use Rattle.header_tokens.specs.declared.token.Kind.{Kind}
use Rattle.header_tokens.specs.declared.token.Kind.TheVariants as kind
use Rattle.header_tokens.specs.Tokens.{is_mark, is_letter}
use Rattle.text_words.specs.Octets.{is_white}
use Rattle.header_tokens.specs.Tokens.{IsBracketed, none, IsKind, EndsBefore, BeginsWithToken, Spelled, IsToken}
use Rattle.text_words.specs.Cuts.{Each, IsRun, Stops, front, back}
use Rattle.text_words.specs.Sequence.{UnitAt}
use Rattle.text_words.proofs.CutLemmas.{front_back, front_each, back_stops, front_is}
use Rattle.text_words.proofs.SequenceLemmas.{IsReader, unit_same}
use Rattle.header_tokens.specs.reading.TokenReading.{span, further, close_in, token_of, token_in, spelled_of, spelled_in}
use Rattle.header_tokens.proofs.BracketContents.{Apart, closes_again, closed_in}

-- ---- what is spelled is read

-- octets of a class at the front of a text, with none of it directly after them, are those that are counted
pub span_is : (p : ℕ → Bool) (x y : List ℕ) → Each p x → Stops p y → span p (x ++ y) ≡ length x
span_is p x y e s = ap length (front_is p x y e s)

space_no_letter : (a : Alphabet) (c : ℕ) → is_white c ≡ true → is_letter a c ≡ false
space_no_letter alphabet.Mail c e = grind arith
space_no_letter alphabet.Mime c e = grind arith

mark_no_letter : (a : Alphabet) (c : ℕ) → is_mark a c ≡ true → is_letter a c ≡ false
mark_no_letter alphabet.Mail c e = grind arith
mark_no_letter alphabet.Mime c e = grind arith

mark_no_space : (a : Alphabet) (c : ℕ) → is_mark a c ≡ true → is_white c ≡ false
mark_no_space alphabet.Mail c e = grind arith
mark_no_space alphabet.Mime c e = grind arith

abbrev pub Reads : Alphabet → Kind → ℕ → List ℕ → Type 0
Reads a k n t = token_in a t ≡ Some (k, n)

atom_again : (a : Alphabet) (x y : List ℕ) → IsRun (is_letter a) x → Stops (is_letter a) y → Reads a kind.Atom (length x) (x ++ y)
unfolding token_in
atom_again a [] y r s = absurd (r.1 refl)
atom_again a (c ∷ x) y r s = cond-true (is_letter a c) _ _ r.0.0 ∙ ap (λ (n : ℕ). Some (kind.Atom, n)) (span_is (is_letter a) (c ∷ x) y r.0 s)

space_again : (a : Alphabet) (x y : List ℕ) → IsRun is_white x → Stops is_white y → Reads a kind.Space (length x) (x ++ y)
unfolding token_in
space_again a [] y r s = absurd (r.1 refl)
space_again a (c ∷ x) y r s = cond-false (is_letter a c) _ _ (space_no_letter a c r.0.0) ∙ cond-true (is_white c) _ _ r.0.0
    ∙ ap (λ (n : ℕ). Some (kind.Space, n)) (span_is is_white (c ∷ x) y r.0 s)

mark_again : (a : Alphabet) (c : ℕ) (y : List ℕ) → is_mark a c ≡ true → Reads a kind.Mark 1 (c ∷ y)
unfolding token_in
mark_again a c y e = cond-false (is_letter a c) _ _ (mark_no_letter a c e) ∙ cond-false (is_white c) _ _ (mark_no_space a c e) ∙ cond-true (is_mark a c) _ _ e

quoted_in : (a : Alphabet) (t : List ℕ) → token_in a (34 ∷ t) ≡ token_of kind.Quoted (further 1 (close_in none 34 0 false t))
unfolding token_in
quoted_in alphabet.Mail t = refl
quoted_in alphabet.Mime t = refl

literal_in : (a : Alphabet) (t : List ℕ) → token_in a (91 ∷ t) ≡ token_of kind.Literal (further 1 (close_in none 93 0 false t))
unfolding token_in
literal_in alphabet.Mail t = refl
literal_in alphabet.Mime t = refl

comment_in : (a : Alphabet) (t : List ℕ) → token_in a (40 ∷ t) ≡ token_of kind.Comment (further 1 (close_in 40 41 0 false t))
unfolding token_in
comment_in alphabet.Mail t = refl
comment_in alphabet.Mime t = refl

-- the octet that closes a quoted text is no backslash, and no octet opens a bracket in it
pub apart_quoted : Apart none 34
apart_quoted = record { opener = eqb-false none 92 refl; closer = eqb-false 34 92 refl; two = eqb-false none 34 refl }

-- the octet that closes a literal is no backslash, and no octet opens a bracket in it
pub apart_literal : Apart none 93
apart_literal = record { opener = eqb-false none 92 refl; closer = eqb-false 93 92 refl; two = eqb-false none 93 refl }

-- the two parentheses of a comment differ, and neither is a backslash
pub apart_comment : Apart 40 41
apart_comment = record { opener = eqb-false 40 92 refl; closer = eqb-false 41 92 refl; two = eqb-false 40 41 refl }

bracket_again : (a : Alphabet) (k : Kind) (first o c : ℕ) (x y : List ℕ) → Apart o c → ((t : List ℕ) → token_in a (first ∷ t) ≡ token_of k (further 1 (close_in o c 0 false t)))
    → IsBracketed first o c x → Reads a k (length x) (x ++ y)
bracket_again a k first o c x y p f b =
    let s = b.contents in
    let e1 : x ++ y ≡ first ∷ (s ++ c ∷ y) = ap (λ (u : List ℕ). u ++ y) b.whole ∙ ap (λ (u : List ℕ). first ∷ u) (append_assoc s (c ∷ []) y) in
    let e2 = closes_again o c s y p b.inside in
    let n : 1 + (length s + 1) ≡ length x = omega (arith, ap length b.whole, length-append s (c ∷ [])) in
    ap (token_in a) e1 ∙ f (s ++ c ∷ y) ∙ ap (λ (r : Option ℕ). token_of k (further 1 r)) e2 ∙ ap (λ (m : ℕ). Some (k, m)) n

front_again : (a : Alphabet) (k : Kind) (x y : List ℕ) → IsKind a k x → EndsBefore a k y → Reads a k (length x) (x ++ y)
front_again a kind.Atom x y i s = atom_again a x y i s
front_again a kind.Space x y i s = space_again a x y i s
front_again a kind.Mark x y i s = rw (i.1) (mark_again a i.0 y i.2)
front_again a kind.Quoted x y i s = bracket_again a kind.Quoted 34 none 34 x y apart_quoted (quoted_in a) i
front_again a kind.Literal x y i s = bracket_again a kind.Literal 91 none 93 x y apart_literal (literal_in a) i
front_again a kind.Comment x y i s = bracket_again a kind.Comment 40 40 41 x y apart_comment (comment_in a) i

-- the token that a text begins with is read, with its kind and its length
pub token_again : (a : Alphabet) (k : Kind) (front rest t : List ℕ) → BeginsWithToken a k front rest t → Reads a k (length front) t
token_again a k front rest t b = ap (token_in a) b.whole ∙ front_again a k front rest b.spelled b.ends

-- ---- what is read is spelled so

pub record Takes (a : Alphabet) (k : Kind) (n : ℕ) (t : List ℕ) : Type 0 where
  pub front : List ℕ
  pub rest : List ℕ
  pub begins : BeginsWithToken a k front rest t
  pub counted : n ≡ length front
  pub some : 0 < n

run_takes : (a : Alphabet) (k : Kind) (p : ℕ → Bool) (c n : ℕ) (t : List ℕ) → ((x : List ℕ) → IsRun p x → IsKind a k x) → ((x : List ℕ) → Stops p x → EndsBefore a k x)
    → p c ≡ true → n ≡ span p (c ∷ t) → Takes a k n (c ∷ t)
unfolding front
run_takes a k p c n t f g e h =
    let some : front p (c ∷ t) ≡ c ∷ front p t = cond-true (p c) (c ∷ front p t) [] e in
    record {
      front = front p (c ∷ t);
      rest = back p (c ∷ t);
      begins = record {
        whole = front_back p (c ∷ t);
        spelled = f (front p (c ∷ t)) (front_each p (c ∷ t), λ z. let q = sym some ∙ z in absurd cc);
        ends = g (back p (c ∷ t))
            (back_stops p (c ∷ t));
      };
      counted = h;
      some = omega (arith, h, ap length some);
    }

-- equal results of the reading of a token have the same kind and the same length
pub some_pair : (k l : Kind) (n m : ℕ) → ◌≡◌ {A = Option (Kind × ℕ)} (Some (k, n)) (Some (l, m)) → (k ≡ l) × (n ≡ m)
some_pair k l n m e = (ap kind_in e, ap count_in e)
  where
    kind_in : Option (Kind × ℕ) → Kind
    kind_in None = k
    kind_in (Some p) = p.0

    count_in : Option (Kind × ℕ) → ℕ
    count_in None = n
    count_in (Some p) = p.1

bracket_takes : (a : Alphabet) (k k' : Kind) (first o c n : ℕ) (t : List ℕ) → Apart o c → ((x : List ℕ) → IsBracketed first o c x → IsKind a k' x)
    → ((x : List ℕ) → EndsBefore a k' x) → token_of k' (further 1 (close_in o c 0 false t)) ≡ Some (k, n) → Takes a k n (first ∷ t)
bracket_takes a k k' first o c n t p f g e = by (close_in o c 0 false t) refl e
  where
    done : (m : ℕ) → close_in o c 0 false t ≡ Some m → Takes a k' (1 + m) (first ∷ t)
    done m e =
        let r = closed_in (length t) o c 0 m t p (omega arith) e in
        let q : ◌≡◌ {A = Option ℕ} (Some (length r.contents + 1 + 0)) (Some m) = r.counted in
        let n' : length r.contents + 1 + 0 ≡ m = cc in
        let w : t ≡ (r.contents ++ c ∷ []) ++ r.rest = r.whole ∙ sym (append_assoc r.contents (c ∷ []) r.rest) in
        record {
          front = first ∷ (r.contents ++ c ∷ []);
          rest = r.rest;
          begins = record { whole = ap (λ (u : List ℕ). first ∷ u) w; spelled = f _ (record { contents = r.contents; whole = refl; inside = r.inside }); ends = g r.rest };
          counted = omega (arith, length-append r.contents (c ∷ []));
          some = omega arith;
        }

    by : (r : Option ℕ) → close_in o c 0 false t ≡ r → token_of k' (further 1 r) ≡ Some (k, n) → Takes a k n (first ∷ t)
    by None h e = absurd cc
    by (Some m) h e =
        let q = some_pair k' k (1 + m) n e in
        let P : Kind → Type 0 = λ k. Takes a k (1 + m) (first ∷ t) in
        let Q : ℕ → Type 0 = λ n. Takes a k n (first ∷ t) in
        subst Q q.1 (subst P q.0 (done m h))

chosen : (b : Bool) (x y z : Option (Kind × ℕ)) → cond b x y ≡ z → ((b ≡ true) × (x ≡ z)) ⊎ ((b ≡ false) × (y ≡ z))
chosen true x y z e = inl (refl, e)
chosen false x y z e = inr (refl, e)

-- the reading, test by test
at_first : (a : Alphabet) (k : Kind) (c first n : ℕ) (t : List ℕ) → c ≡ first → Takes a k n (first ∷ t) → Takes a k n (c ∷ t)
at_first a k c first n t e h = let P : ℕ → Type 0 = λ c. Takes a k n (c ∷ t) in subst P (sym e) h

comment_takes : (a : Alphabet) (k : Kind) (c n : ℕ) (t : List ℕ) → cond (eqb c 40) (token_of kind.Comment (further 1 (close_in 40 41 0 false t))) None ≡ Some (k, n)
    → Takes a k n (c ∷ t)
comment_takes a k c n t e = elim (chosen (eqb c 40) _ _ _ e) [
  | inl h ↦ at_first a k c 40 n t (eqb-true c 40 h.0) (bracket_takes a k kind.Comment 40 40 41 n t apart_comment (λ x b. b) (λ x. tt) h.1)
  | inr h ↦ absurd (let h' = h.1 in cc)
]

literal_takes : (a : Alphabet) (k : Kind) (c n : ℕ) (t : List ℕ)
    → cond (eqb c 91) (token_of kind.Literal (further 1 (close_in none 93 0 false t))) (cond (eqb c 40)
    (token_of kind.Comment (further 1 (close_in 40 41 0 false t))) None) ≡ Some (k, n) → Takes a k n (c ∷ t)
literal_takes a k c n t e = elim (chosen (eqb c 91) _ _ _ e) [
  | inl h ↦ at_first a k c 91 n t (eqb-true c 91 h.0) (bracket_takes a k kind.Literal 91 none 93 n t apart_literal (λ x b. b) (λ x. tt) h.1)
  | inr h ↦ comment_takes a k c n t h.1
]

quoted_takes : (a : Alphabet) (k : Kind) (c n : ℕ) (t : List ℕ)
    → cond (eqb c 34) (token_of kind.Quoted (further 1 (close_in none 34 0 false t))) (cond (eqb c 91) (token_of kind.Literal (further 1 (close_in none 93 0 false t)))
    (cond (eqb c 40) (token_of kind.Comment (further 1 (close_in 40 41 0 false t))) None)) ≡ Some (k, n) → Takes a k n (c ∷ t)
quoted_takes a k c n t e = elim (chosen (eqb c 34) _ _ _ e) [
  | inl h ↦ at_first a k c 34 n t (eqb-true c 34 h.0) (bracket_takes a k kind.Quoted 34 none 34 n t apart_quoted (λ x b. b) (λ x. tt) h.1)
  | inr h ↦ literal_takes a k c n t h.1
]

at_kind : (a : Alphabet) (k k' : Kind) (n n' : ℕ) (t : List ℕ) → ◌≡◌ {A = Option (Kind × ℕ)} (Some (k', n')) (Some (k, n)) → (n' ≡ n → Takes a k' n t) → Takes a k n t
at_kind a k k' n n' t e f =
    let q = some_pair k' k n' n e in
    let P : Kind → Type 0 = λ k. Takes a k n t in
    subst P q.0 (f q.1)

-- where a token is read, the text begins with a token of that kind and that length
pub token_takes : (a : Alphabet) (k : Kind) (n : ℕ) (t : List ℕ) → token_in a t ≡ Some (k, n) → Takes a k n t
unfolding token_in
token_takes a k n [] e = absurd cc
token_takes a k n (c ∷ t) e = elim (chosen (is_letter a c) _ _ _ e) [
  | inl h ↦ at_kind a k kind.Atom n _ (c ∷ t) h.1 (λ m. run_takes a kind.Atom (is_letter a) c n t (λ x r. r) (λ x s. s) h.0 (sym m))
  | inr h ↦ elim (chosen (is_white c) _ _ _ h.1) [
    | inl i ↦ at_kind a k kind.Space n _ (c ∷ t) i.1 (λ m. run_takes a kind.Space is_white c n t (λ x r. r) (λ x s. s) i.0 (sym m))
    | inr i ↦ elim (chosen (is_mark a c) _ _ _ i.1) [
      | inl j ↦ at_kind a k kind.Mark n 1 (c ∷ t) j.1
          (λ m. record { front = c ∷ []; rest = t; begins = record { whole = refl; spelled = (c, refl, j.0); ends = tt }; counted = sym m; some = omega arith })
      | inr j ↦ quoted_takes a k c n t j.1
    ]
  ]
]

-- ---- tokens with their octets

kind_some : (a : Alphabet) (k : Kind) (x : List ℕ) → IsKind a k x → x ≢ []
kind_some a kind.Atom x i = i.1
kind_some a kind.Space x i = i.1
kind_some a kind.Mark x i = λ e. let q = sym i.1 ∙ e in absurd cc
kind_some a kind.Quoted x i = λ e. let q = sym i.whole ∙ e in absurd cc
kind_some a kind.Literal x i = λ e. let q = sym i.whole ∙ e in absurd cc
kind_some a kind.Comment x i = λ e. let q = sym i.whole ∙ e in absurd cc

complete : (a : Alphabet) (v : Spelled) (x s : List ℕ) → IsToken a v x s → spelled_in a (x ++ s) ≡ Some (v, length x)
complete a v x s i =
    let r = token_again a v.kind x s (x ++ s) (record { whole = refl; spelled = i.spelled; ends = i.ends }) in
    ap (spelled_of (x ++ s)) r ∙ ap (λ (u : List ℕ). Some (record { kind = v.kind; text = u }, length x)) (take_at x s (length x) refl ∙ sym i.text_is)

some : (a : Alphabet) (v : Spelled) (x s : List ℕ) → IsToken a v x s → x ≢ []
some a v x s i = kind_some a v.kind x i.spelled

sound : (a : Alphabet) (v : Spelled) (n : ℕ) (t : List ℕ) → spelled_in a t ≡ Some (v, n) → UnitAt (IsToken a) v n t
sound a v n t e = by_token (token_in a t) refl e
  where
    by_token : (o : Option (Kind × ℕ)) → token_in a t ≡ o → spelled_of t o ≡ Some (v, n) → UnitAt (IsToken a) v n t
    by_token None h e = absurd cc
    by_token (Some p) h e =
        let k = token_takes a p.0 p.1 t h in
        unit_same (IsToken a) (record { kind = p.0; text = take p.1 t }) v p.1 n t e (record {
          unit = k.front;
          rest = k.rest;
          whole = k.begins.whole;
          is = record { text_is = ap (take p.1) k.begins.whole ∙ take_at k.front k.rest p.1 (sym k.counted); spelled = k.begins.spelled; ends = k.begins.ends };
          counted = k.counted;
        })

-- reading the token at the front of a text finds the token that the text begins with, and nothing else
pub token_reader : (a : Alphabet) → IsReader (IsToken a) (spelled_in a)
token_reader a = record { sound = sound a; complete = complete a; some = some a }
