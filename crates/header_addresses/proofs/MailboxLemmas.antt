-- Which tokens stand in the parts of a mailbox.
use Rattle.std.proofs.Common.{◌≡◌, ℕ, ◌⊎◌, inl, inr, Bool, true, false, not, ◌&&◌, ◌||◌, List, [], ◌∷◌, ◌++◌, cond, refl, sym, ap, ◌∙◌, subst, append_assoc, eqb-true}
use Rattle.std.specs.List.{list_all, list_any}
use Rattle.std.proofs.lemmas.List.{append-nil}
use Rattle.text_words.specs.Cuts.{Each, Stops, front, back}
use Rattle.text_words.proofs.CutLemmas.{front_back, front_each, back_stops, each_append, each_left, list_all_each}
use Rattle.header_tokens.specs.declared.token.Kind.{Kind}
use Rattle.header_tokens.specs.declared.token.Kind.TheVariants as kind
use Rattle.header_tokens.specs.Tokens.{Spelled}
use Rattle.header_tokens.specs.Lexemes.{is_lexeme_kind}
use Rattle.header_tokens.specs.Kinds.{mark_in, mark_of, has_mark, is_gap, is_atom_kind, is_atom, is_word_kind, is_word}
use Rattle.header_addresses.specs.Mailboxes.{is_literal_kind, has_no_opener, behind_first, is_literal}
use Rattle.header_addresses.specs.Mailboxes.{is_phrase_part, begins_phrase, is_phrase, is_display_name, is_dotted, are_apart, is_wide_local_part, begins_literal, is_domain, is_no_at, spec_of}
use Rattle.header_addresses.specs.Mailboxes.{is_addr_spec, begins_hop, is_hop, are_hops, is_route, is_no_colon, inner_of, is_inner_token}
use Rattle.header_addresses.specs.AddressLists.{is_no_comma}
use Rattle.header_addresses.specs.reading.ElementReading.{are_hops_behind}

-- ---- choices

-- where a conjunction is true, both of its parts are
pub and_parts : (a b : Bool) → (a && b) ≡ true → (a ≡ true) × (b ≡ true)
and_parts true b e = (refl, e)
and_parts false b e = absurd cc

-- where two answers are true, so is their conjunction
pub both : (a b : Bool) → a ≡ true → b ≡ true → (a && b) ≡ true
both a b e f = ap (λ (q : Bool). q && b) e ∙ f

-- where a disjunction is true, one of its parts is
pub or_parts : (a b : Bool) → (a || b) ≡ true → (a ≡ true) ⊎ (b ≡ true)
or_parts true b e = inl refl
or_parts false b e = inr e

and_true : (b : Bool) → b ≡ (b && true)
and_true true = refl
and_true false = refl

-- an answer whose negation is false is true
pub flip : (b : Bool) → not b ≡ false → b ≡ true
flip true e = refl
flip false e = absurd cc

-- what a choice gives is its first branch, where the test is true, or its second, where it is false
pub picked : {A : Type 0} (b : Bool) (x y z : A) → cond b x y ≡ z → ((b ≡ true) × (x ≡ z)) ⊎ ((b ≡ false) × (y ≡ z))
picked true x y z e = inl (refl, e)
picked false x y z e = inr (refl, e)

-- ---- marks of tokens

-- white space and comments are no marks
pub gap_mark : (s : Spelled) → is_gap s ≡ true → mark_of s ≡ 0
gap_mark s e = by s.kind s.text e
  where
    by : (k : Kind) (t : List ℕ) → not (is_lexeme_kind k) ≡ true → mark_in k t ≡ 0
    by kind.Mark t e = absurd cc
    by kind.Atom t e = refl
    by kind.Space t e = refl
    by kind.Quoted t e = refl
    by kind.Literal t e = refl
    by kind.Comment t e = refl

-- words are no marks
pub word_mark : (s : Spelled) → is_word s ≡ true → mark_of s ≡ 0
word_mark s e = by s.kind s.text e
  where
    by : (k : Kind) (t : List ℕ) → is_word_kind k ≡ true → mark_in k t ≡ 0
    by kind.Mark t e = absurd cc
    by kind.Atom t e = refl
    by kind.Space t e = refl
    by kind.Quoted t e = refl
    by kind.Literal t e = refl
    by kind.Comment t e = refl

-- atoms are no marks
pub atom_mark : (s : Spelled) → is_atom s ≡ true → mark_of s ≡ 0
atom_mark s e = by s.kind s.text e
  where
    by : (k : Kind) (t : List ℕ) → is_atom_kind k ≡ true → mark_in k t ≡ 0
    by kind.Mark t e = absurd cc
    by kind.Atom t e = refl
    by kind.Space t e = refl
    by kind.Quoted t e = refl
    by kind.Literal t e = refl
    by kind.Comment t e = refl

literal_mark : (s : Spelled) → is_literal s ≡ true → mark_of s ≡ 0
literal_mark s e = by s.kind s.text (and_parts (is_literal_kind s.kind) (has_no_opener false (behind_first s.text)) e).0
  where
    by : (k : Kind) (t : List ℕ) → is_literal_kind k ≡ true → mark_in k t ≡ 0
    by kind.Mark t e = absurd cc
    by kind.Atom t e = refl
    by kind.Space t e = refl
    by kind.Quoted t e = refl
    by kind.Literal t e = refl
    by kind.Comment t e = refl

-- where the test for a mark is true of a token, that is the token's mark
pub mark_is : (c : ℕ) (s : Spelled) → has_mark c s ≡ true → mark_of s ≡ c
mark_is c s e = eqb-true (mark_of s) c e

-- a class of tokens by their marks
abbrev pub by_mark : (ℕ → Bool) → Spelled → Bool
by_mark q s = q (mark_of s)

-- a token is in a class of marks where its mark is
pub in_class : (q : ℕ → Bool) (m : ℕ) (s : Spelled) → mark_of s ≡ m → q m ≡ true → by_mark q s ≡ true
in_class q m s e f = ap q e ∙ f

-- ---- what stands in each part

Whole : (ℕ → Bool) → List Spelled → Type 0
Whole q ts = Each (by_mark q) ts

-- what is cut is joined again
joined : (q : ℕ → Bool) (p : Spelled → Bool) (ts : List Spelled) → Each (by_mark q) (front p ts) → Each (by_mark q) (back p ts) → Each (by_mark q) ts
unfolding Whole
joined q p ts e f = subst (Whole q) (sym (front_back p ts)) (each_append (by_mark q) (front p ts) (back p ts) e f)

-- white space and comments are in each class by marks that has all tokens that are no marks
pub gaps_each : (q : ℕ → Bool) (ts : List Spelled) → q 0 ≡ true → Each is_gap ts → Each (by_mark q) ts
gaps_each q [] z e = tt
gaps_each q (s ∷ ts) z e = (in_class q 0 s (gap_mark s e.0) z, gaps_each q ts z e.1)

dotted_each : (q : ℕ → Bool) (word : Spelled → Bool) → ((s : Spelled) → word s ≡ true → mark_of s ≡ 0) → q 0 ≡ true → q 46 ≡ true → (due : Bool) (ts : List Spelled)
    → is_dotted word due ts ≡ true → Each (by_mark q) ts
dotted_each q word f z d due [] e = tt
dotted_each q word f z d due (s ∷ ts) e = elim (picked (is_gap s) _ _ _ e) [
  | inl h ↦ (in_class q 0 s (gap_mark s h.0) z, dotted_each q word f z d due ts h.1)
  | inr h ↦ elim (picked due _ _ _ h.1) [
    | inl i ↦ let a = and_parts (word s) (is_dotted word false ts) i.1 in (in_class q 0 s (f s a.0) z, dotted_each q word f z d false ts a.1)
    | inr i ↦ let a = and_parts (has_mark 46 s) (is_dotted word true ts) i.1 in (in_class q 46 s (mark_is 46 s a.0) d, dotted_each q word f z d true ts a.1)
  ]
]

wide_each : (q : ℕ → Bool) → q 0 ≡ true → q 46 ≡ true → (behind : Bool) (ts : List Spelled) → are_apart behind ts ≡ true → Each (by_mark q) ts
wide_each q z d behind [] e = tt
wide_each q z d behind (s ∷ ts) e = elim (picked (is_gap s) _ _ _ e) [
  | inl h ↦ (in_class q 0 s (gap_mark s h.0) z, wide_each q z d behind ts h.1)
  | inr h ↦
      let a = and_parts (has_mark 46 s || (is_word s && not behind)) (are_apart (not (has_mark 46 s)) ts) h.1 in
      (by (or_parts (has_mark 46 s) (is_word s && not behind) a.0), wide_each q z d (not (has_mark 46 s)) ts a.1)
]
  where
    by : (has_mark 46 s ≡ true) ⊎ ((is_word s && not behind) ≡ true) → by_mark q s ≡ true
    by (inl i) = in_class q 46 s (mark_is 46 s i) d
    by (inr i) = in_class q 0 s (word_mark s (and_parts (is_word s) (not behind) i).0) z

literal_each : (q : ℕ → Bool) (ts : List Spelled) → q 0 ≡ true → begins_literal ts ≡ true → Each (by_mark q) ts
literal_each q [] z e = tt
literal_each q (l ∷ ts) z e =
    let a = and_parts (is_literal l) (list_all is_gap ts) e in
    (in_class q 0 l (literal_mark l a.0) z, gaps_each q ts z (list_all_each is_gap ts a.1))

domain_each : (q : ℕ → Bool) (ts : List Spelled) → q 0 ≡ true → q 46 ≡ true → is_domain ts ≡ true → Each (by_mark q) ts
domain_each q ts z d e = elim (or_parts (is_dotted is_atom true ts) (begins_literal (back is_gap ts)) e) [
  | inl h ↦ dotted_each q is_atom atom_mark z d true ts h
  | inr h ↦ joined q is_gap ts (gaps_each q (front is_gap ts) z (front_each is_gap ts)) (literal_each q (back is_gap ts) z h)
]

parts_each : (q : ℕ → Bool) (ts : List Spelled) → q 0 ≡ true → q 46 ≡ true → Each is_phrase_part ts → Each (by_mark q) ts
parts_each q [] z d e = tt
parts_each q (s ∷ ts) z d e = (by (or_parts (is_word s) (has_mark 46 s || is_gap s) (regroup (is_word s) (has_mark 46 s) (is_gap s) e.0)), parts_each q ts z d e.1)
  where
    regroup : (a b c : Bool) → (a || b || c) ≡ true → (a || (b || c)) ≡ true
    regroup true b c e = refl
    regroup false true c e = refl
    regroup false false c e = e

    by : (is_word s ≡ true) ⊎ ((has_mark 46 s || is_gap s) ≡ true) → by_mark q s ≡ true
    by (inl h) = in_class q 0 s (word_mark s h) z
    by (inr h) = elim (or_parts (has_mark 46 s) (is_gap s) h) [
      | inl i ↦ in_class q 46 s (mark_is 46 s i) d
      | inr i ↦ in_class q 0 s (gap_mark s i) z
    ]

words_each : (q : ℕ → Bool) (ts : List Spelled) → q 0 ≡ true → q 46 ≡ true → begins_phrase ts ≡ true → Each (by_mark q) ts
words_each q [] z d e = tt
words_each q (w ∷ ts) z d e =
    let a = and_parts (is_word w) (list_all is_phrase_part ts) e in
    (in_class q 0 w (word_mark w a.0) z, parts_each q ts z d (list_all_each is_phrase_part ts a.1))

-- the tokens of a phrase are in each class by marks that has dots, and all tokens that are no marks
pub phrase_each : (q : ℕ → Bool) (ts : List Spelled) → q 0 ≡ true → q 46 ≡ true → is_phrase ts ≡ true → Each (by_mark q) ts
phrase_each q ts z d e = joined q is_gap ts (gaps_each q (front is_gap ts) z (front_each is_gap ts)) (words_each q (back is_gap ts) z d e)

-- the tokens of a display name are in each class by marks that has dots, and all tokens that are no marks
pub name_each : (q : ℕ → Bool) (ts : List Spelled) → q 0 ≡ true → q 46 ≡ true → is_display_name ts ≡ true → Each (by_mark q) ts
name_each q ts z d e = elim (or_parts (list_all is_gap ts) (is_phrase ts) e) [
  | inl h ↦ gaps_each q ts z (list_all_each is_gap ts h)
  | inr h ↦ phrase_each q ts z d h
]

-- the tokens of an addr-spec are in each class by marks that has dots, "@", and all tokens that are no marks
pub spec_each : (q : ℕ → Bool) (ts : List Spelled) → q 0 ≡ true → q 46 ≡ true → q 64 ≡ true → is_addr_spec ts ≡ true → Each (by_mark q) ts
spec_each q ts z d a e = joined q is_no_at ts (local (front is_no_at ts) (back is_no_at ts) e) (domain (front is_no_at ts) (back is_no_at ts) (back_stops is_no_at ts) e)
  where
    local : (l r : List Spelled) → spec_of l r ≡ true → Each (by_mark q) l
    local l [] e = dotted_each q is_word word_mark z d true l e
    local l (x ∷ r) e = wide_each q z d false l (and_parts (list_any is_word l) (are_apart false l) (and_parts (is_wide_local_part l) (is_domain r) e).0).1

    domain : (l r : List Spelled) → Stops is_no_at r → spec_of l r ≡ true → Each (by_mark q) r
    domain l [] s e = tt
    domain l (x ∷ r) s e = (in_class q 64 x (mark_is 64 x (flip (has_mark 64 x) s)) a, domain_each q r z d (and_parts (is_wide_local_part l) (is_domain r) e).1)

hop_each : (q : ℕ → Bool) (ts : List Spelled) → q 0 ≡ true → q 46 ≡ true → q 64 ≡ true → is_hop ts ≡ true → Each (by_mark q) ts
hop_each q ts z d a e = joined q is_gap ts (gaps_each q (front is_gap ts) z (front_each is_gap ts)) (by (back is_gap ts) e)
  where
    by : (r : List Spelled) → begins_hop r ≡ true → Each (by_mark q) r
    by [] e = tt
    by (x ∷ r) e = let p = and_parts (has_mark 64 x) (is_domain r) e in (in_class q 64 x (mark_is 64 x p.0) a, domain_each q r z d p.1)

hops_each : (q : ℕ → Bool) (part ts : List Spelled) → q 0 ≡ true → q 46 ≡ true → q 64 ≡ true → q 44 ≡ true → are_hops part ts ≡ true → Each (by_mark q) (part ++ ts)
unfolding Whole
hops_each q part [] z d a c e = subst (Whole q) (sym (append-nil part)) (hop_each q part z d a e)
hops_each q part (s ∷ ts) z d a c e = elim (picked (has_mark 44 s) _ _ _ e) [
  | inl h ↦
      let p = and_parts (is_hop part) (are_hops [] ts) h.1 in
      each_append (by_mark q) part (s ∷ ts) (hop_each q part z d a p.0) (in_class q 44 s (mark_is 44 s h.0) c, hops_each q [] ts z d a c p.1)
  | inr h ↦ subst (Whole q) (append_assoc part (s ∷ []) ts) (hops_each q (part ++ s ∷ []) ts z d a c h.1)
]

-- what stands in angle brackets is in each class by marks that has dots, "@", commas, colons, and all tokens that are no marks
pub inner_each : (q : ℕ → Bool) (ts : List Spelled) → q 0 ≡ true → q 46 ≡ true → q 64 ≡ true → q 44 ≡ true → q 58 ≡ true → is_inner_token ts ≡ true → Each (by_mark q) ts
inner_each q ts z d a c k e = joined q is_no_colon ts (route (front is_no_colon ts) (back is_no_colon ts) e) (spec (front is_no_colon ts) (back is_no_colon ts)
    (back_stops is_no_colon ts) e)
  where
    route : (l r : List Spelled) → inner_of l r ≡ true → Each (by_mark q) l
    route l [] e = spec_each q l z d a e
    route l (x ∷ r) e = hops_each q [] l z d a c (and_parts (list_any (has_mark 64) l) (are_hops [] l) (and_parts (is_route l) (is_addr_spec r) e).0).1

    spec : (l r : List Spelled) → Stops is_no_colon r → inner_of l r ≡ true → Each (by_mark q) r
    spec l [] s e = tt
    spec l (x ∷ r) s e = (in_class q 58 x (mark_is 58 x (flip (has_mark 58 x) s)) k, spec_each q r z d a (and_parts (is_route l) (is_addr_spec r) e).1)

-- ---- gaps alone are no addr-spec

dotted_gaps : (word : Spelled → Bool) (ts : List Spelled) → Each is_gap ts → is_dotted word true ts ≡ false
dotted_gaps word [] e = refl
dotted_gaps word (s ∷ ts) e = ap (λ (b : Bool). cond b (is_dotted word true ts) (word s && is_dotted word false ts)) e.0 ∙ dotted_gaps word ts e.1

gap_no_word : (s : Spelled) → is_gap s ≡ true → is_word s ≡ false
gap_no_word s e = by s.kind e
  where
    by : (k : Kind) → not (is_lexeme_kind k) ≡ true → is_word_kind k ≡ false
    by kind.Mark e = refl
    by kind.Atom e = absurd cc
    by kind.Space e = refl
    by kind.Quoted e = absurd cc
    by kind.Literal e = refl
    by kind.Comment e = refl

gaps_no_word : (ts : List Spelled) → Each is_gap ts → list_any is_word ts ≡ false
gaps_no_word [] e = refl
gaps_no_word (s ∷ ts) e = ap (λ (b : Bool). b || list_any is_word ts) (gap_no_word s e.0) ∙ gaps_no_word ts e.1

-- an addr-spec is more than white space and comments
pub spec_some : (ts : List Spelled) → is_addr_spec ts ≡ true → list_all is_gap ts ≡ false
spec_some ts e = by (list_all is_gap ts) refl
  where
    none : (l r : List Spelled) → Each is_gap l → spec_of l r ≡ true → ⊥
    none l [] g e = let d = dotted_gaps is_word l g in absurd cc
    none l (x ∷ r) g e =
        let p = and_parts (list_any is_word l) (are_apart false l) (and_parts (is_wide_local_part l) (is_domain r) e).0 in
        let d = gaps_no_word l g in let f = p.0 in absurd cc

    by : (b : Bool) → list_all is_gap ts ≡ b → b ≡ false
    by false h = refl
    by true h = absurd (none (front is_no_at ts) (back is_no_at ts)
        (each_left is_gap (front is_no_at ts) (back is_no_at ts) (subst (λ (u : List Spelled). Each is_gap u) (front_back is_no_at ts) (list_all_each is_gap ts h))) e)

-- ---- hops, cut at the first comma

-- a part and the tokens after it are hops exactly where they are a hop up to the first comma of the tokens, and hops after it
pub hops_cut : (part ts : List Spelled) → are_hops part ts ≡ (is_hop (part ++ front is_no_comma ts) && are_hops_behind (back is_no_comma ts))
unfolding front back
hops_cut part [] = ap is_hop (sym (append-nil part)) ∙ and_true (is_hop (part ++ []))
hops_cut part (s ∷ ts) = by (has_mark 44 s) (hops_cut (part ++ s ∷ []) ts)
  where
    by : (b : Bool) → are_hops (part ++ s ∷ []) ts ≡ (is_hop ((part ++ s ∷ []) ++ front is_no_comma ts) && are_hops_behind (back is_no_comma ts))
        → cond b (is_hop part && are_hops [] ts) (are_hops (part ++ s ∷ []) ts) ≡ (is_hop (part ++ cond (not b) (s ∷ front is_no_comma ts) []) && are_hops_behind
        (cond (not b) (back is_no_comma ts) (s ∷ ts)))
    by true h = ap (λ (u : List Spelled). is_hop u && are_hops [] ts) (sym (append-nil part))
    by false h = h ∙ ap (λ (u : List Spelled). is_hop u && are_hops_behind (back is_no_comma ts)) (append_assoc part (s ∷ []) (front is_no_comma ts))

-- where what stands before the first comma is no hop, the tokens are no hops
pub no_hop : (more hop : List Spelled) → hop ≡ front is_no_comma more → is_hop hop ≡ false → are_hops [] more ≡ false
no_hop more hop e h = hops_cut [] more ∙ ap (λ (u : List Spelled). is_hop u && are_hops_behind (back is_no_comma more)) (sym e)
    ∙ ap (λ (b : Bool). b && are_hops_behind (back is_no_comma more)) h

-- where what stands before the first comma is a hop, the tokens are hops exactly where what follows is
pub hop_passed : (more hop behind : List Spelled) → hop ≡ front is_no_comma more → behind ≡ back is_no_comma more → is_hop hop ≡ true → are_hops [] more ≡ are_hops_behind behind
hop_passed more hop behind e f h = hops_cut [] more ∙ ap (λ (u : List Spelled). is_hop u && are_hops_behind (back is_no_comma more)) (sym e)
    ∙ ap (λ (b : Bool). b && are_hops_behind (back is_no_comma more)) h ∙ ap are_hops_behind (sym f)
