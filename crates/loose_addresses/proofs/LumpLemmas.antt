-- A text begins with one lump.
use Rattle.std.proofs.Common.{◌≡◌, ◌≢◌, ◌⊎◌, inl, inr, ℕ, ◌<◌, ◌≤◌, Bool, true, false, List, [], ◌∷◌, ◌++◌, length, refl, sym, ap, ◌∙◌, subst, append_assoc, arith}
use Rattle.std.proofs.Common.{Option, Some, None}
use Rattle.std.proofs.lemmas.List.{append_cancel_left, append-nil, length-append}
use Rattle.text_words.specs.Sequence.{SameStart, IsDetermined}
use Rattle.text_words.proofs.CutLemmas.{one_run}
use Rattle.header_tokens.specs.declared.token.Alphabet.TheVariants as alphabet
use Rattle.header_tokens.specs.declared.token.Kind.{Kind}
use Rattle.header_tokens.specs.declared.token.Kind.TheVariants as kind
use Rattle.header_tokens.specs.Closings.{is_no_greater_octet, IsAngle, IsClosed}
use Rattle.header_tokens.specs.Kinds.{first_octet}
use Rattle.header_tokens.specs.Tokens.{Spelled, IsBracketed, IsToken, is_mark}
use Rattle.header_tokens.proofs.LeadingLemmas.{one_token}
use Rattle.loose_addresses.specs.Lumps.{is_separator, IsWordShape, IsWhole, IsLump, Whole, Octet, Separator, AreLumpsBefore}
use Rattle.loose_addresses.proofs.ShapeLemmas.{one_shape}

-- ---- what is closed

-- the text is a token wherever it stands, and no mark
record IsTokenHere (x : List ℕ) : Type 0 where
  kind_is : Kind
  token : (s : List ℕ) → IsToken alphabet.Mail (record { kind = kind_is; text = x }) x s
  no_mark : kind_is ≡ kind.Mark → ⊥

is_mark_kind : Kind → Bool
is_mark_kind kind.Mark = true
is_mark_kind _ = false

sorted : (x : List ℕ) → IsClosed x → IsTokenHere x ⊎ IsAngle x
unfolding is_mark_kind
sorted x (inl q) = inl (record { kind_is = kind.Quoted; token = λ s. record { text_is = refl; spelled = q; ends = tt }; no_mark = λ e. let f = ap is_mark_kind e in absurd cc })
sorted x (inr (inl q)) = inl (record { kind_is = kind.Comment; token = λ s. record { text_is = refl; spelled = q; ends = tt }; no_mark = λ e. let f = ap is_mark_kind e in absurd cc })
sorted x (inr (inr (inl q))) = inl (record { kind_is = kind.Literal; token = λ s. record { text_is = refl; spelled = q; ends = tt }; no_mark = λ e. let f = ap is_mark_kind e in absurd cc })
sorted x (inr (inr (inr a))) = inr a

-- no such token begins with a mark
token_mark : (x s t : List ℕ) (c : ℕ) → IsTokenHere x → is_mark alphabet.Mail c ≡ true → x ++ s ≡ c ∷ t → ⊥
token_mark x s t c k m e =
    let o = (one_token alphabet.Mail).one (record { kind = k.kind_is; text = x }) (record { kind = kind.Mark; text = c ∷ [] }) x (c ∷ []) s t e (k.token s)
    (record { text_is = refl; spelled = (c, refl, m); ends = tt }) in
    k.no_mark (ap (λ (v : Spelled). v.kind) o.value)

angle_text : (a s : List ℕ) → (60 ∷ (a ++ 62 ∷ [])) ++ s ≡ 60 ∷ (a ++ 62 ∷ s)
angle_text a s = ap (λ (u : List ℕ). 60 ∷ u) (append_assoc a (62 ∷ []) s)

angle_begins : (x s : List ℕ) (a : IsAngle x) → x ++ s ≡ 60 ∷ (a.inner ++ 62 ∷ s)
angle_begins x s a = ap (λ (u : List ℕ). u ++ s) a.whole ∙ angle_text a.inner s

closed_one : (x y s t : List ℕ) → x ++ s ≡ y ++ t → IsClosed x → IsClosed y → x ≡ y
closed_one x y s t e f g = by (sorted x f) (sorted y g)
  where
    by : IsTokenHere x ⊎ IsAngle x → IsTokenHere y ⊎ IsAngle y → x ≡ y
    by (inl k) (inl l) = ((one_token alphabet.Mail).one _ _ x y s t e (k.token s) (l.token t)).unit
    by (inl k) (inr b) = absurd (token_mark x s _ 60 k refl (e ∙ angle_begins y t b))
    by (inr a) (inl l) = absurd (token_mark y t _ 60 l refl (sym e ∙ angle_begins x s a))
    by (inr a) (inr b) =
        let w : 60 ∷ (a.inner ++ 62 ∷ s) ≡ 60 ∷ (b.inner ++ 62 ∷ t) = sym (angle_begins x s a) ∙ e ∙ angle_begins y t b in
        let inner : a.inner ++ 62 ∷ s ≡ b.inner ++ 62 ∷ t = cc in
        let c = one_run is_no_greater_octet a.inner s b.inner t 62 a.first b.first refl inner in
        a.whole ∙ ap (λ (u : List ℕ). 60 ∷ (u ++ 62 ∷ [])) c.front ∙ sym b.whole

separator_mark : (c : ℕ) → is_separator c ≡ true → is_mark alphabet.Mail c ≡ true
separator_mark c e = grind arith

no_separator : (c : ℕ) → is_separator c ≡ true → c ≡ 60 → ⊥
no_separator c e f = grind arith

closed_separator : (x s t : List ℕ) (c : ℕ) → IsClosed x → is_separator c ≡ true → x ++ s ≡ c ∷ t → ⊥
closed_separator x s t c f m e = by (sorted x f)
  where
    by : IsTokenHere x ⊎ IsAngle x → ⊥
    by (inl k) = token_mark x s t c k (separator_mark c m) e
    by (inr a) = let w : 60 ∷ (a.inner ++ 62 ∷ s) ≡ c ∷ t = sym (angle_begins x s a) ∙ e in let h : c ≡ 60 = cc in no_separator c m h

closed_some : (x : List ℕ) → IsClosed x → x ≢ []
closed_some x f e = by (sorted x f)
  where
    by : IsTokenHere x ⊎ IsAngle x → ⊥
    by (inl k) = (one_token alphabet.Mail).some _ x [] (k.token []) e
    by (inr a) = let w = a.whole in absurd cc

-- ---- what is whole

bracket_first : (o i k : ℕ) (x s t : List ℕ) → IsBracketed o i k x → x ++ s ≡ 61 ∷ t → o ≡ 61
bracket_first o i k x s t b e =
    let f : o ∷ ((b.contents ++ k ∷ []) ++ s) ≡ 61 ∷ t = ap (λ (u : List ℕ). u ++ s) (sym b.whole) ∙ e in cc

-- what is closed doesn't begin with "="
closed_first : (x s t : List ℕ) → IsClosed x → x ++ s ≡ 61 ∷ t → ⊥
closed_first x s t (inl b) e = let h : ◌≡◌ {A = ℕ} 34 61 = bracket_first 34 _ 34 x s t b e in absurd (omega (arith, h))
closed_first x s t (inr (inl b)) e = let h : ◌≡◌ {A = ℕ} 40 61 = bracket_first 40 40 41 x s t b e in absurd (omega (arith, h))
closed_first x s t (inr (inr (inl b))) e = let h : ◌≡◌ {A = ℕ} 91 61 = bracket_first 91 _ 93 x s t b e in absurd (omega (arith, h))
closed_first x s t (inr (inr (inr a))) e =
    let w : ◌≡◌ {A = List ℕ} (60 ∷ (a.inner ++ 62 ∷ s)) (61 ∷ t) = sym (angle_begins x s a) ∙ e in
    let h : ◌≡◌ {A = ℕ} 60 61 = cc in absurd (omega (arith, h))

record BeginsEqual (t : List ℕ) : Type 0 where
  more : List ℕ
  whole : t ≡ 61 ∷ more

shape_first : (x s : List ℕ) → IsWordShape x → BeginsEqual (x ++ s)
shape_first x s w = record {
  more = (63 ∷ (w.charset ++ 63 ∷ (w.encoding ++ 63 ∷ (w.text ++ 63 ∷ 61 ∷ [])))) ++ s;
  whole = ap (λ (u : List ℕ). u ++ s) w.whole;
}

whole_one : (x y s t : List ℕ) → x ++ s ≡ y ++ t → IsWhole x → IsWhole y → x ≡ y
whole_one x y s t e (inl f) (inl g) = closed_one x y s t e f g
whole_one x y s t e (inl f) (inr g) = let w = shape_first y t g in absurd (closed_first x s w.more f (e ∙ w.whole))
whole_one x y s t e (inr f) (inl g) = let w = shape_first x s f in absurd (closed_first y t w.more g (sym e ∙ w.whole))
whole_one x y s t e (inr f) (inr g) = one_shape x y s t e f g

no_equal : (c : ℕ) → is_separator c ≡ true → c ≡ 61 → ⊥
no_equal c e f = grind arith

whole_separator : (x s t : List ℕ) (c : ℕ) → IsWhole x → is_separator c ≡ true → x ++ s ≡ c ∷ t → ⊥
whole_separator x s t c (inl f) m e = closed_separator x s t c f m e
whole_separator x s t c (inr f) m e =
    let w = shape_first x s f in
    let g : c ∷ t ≡ 61 ∷ w.more = sym e ∙ w.whole in
    let h : c ≡ 61 = cc in
    no_equal c m h

whole_some : (x : List ℕ) → IsWhole x → x ≢ []
whole_some x (inl f) e = closed_some x f e
whole_some x (inr f) e = let w = f.whole in absurd cc

-- ---- lumps

same : (v w : Option (List ℕ)) (x y s t : List ℕ) → x ++ s ≡ y ++ t → v ≡ w → x ≡ y → SameStart v w x y s t
same v w x y s t e p q = record { value = p; unit = q; rest = append_cancel_left y s t (ap (λ (u : List ℕ). u ++ s) (sym q) ∙ e) }

pub one_lump : (v w : Option (List ℕ)) (x y s t : List ℕ) → x ++ s ≡ y ++ t → IsLump v x s → IsLump w y t → SameStart v w x y s t
one_lump _ _ _ _ s t e (Whole x _ f) (Whole y _ g) = let h = whole_one x y s t e f g in same _ _ _ _ s t e (ap (λ (u : List ℕ). Some u) h) h
one_lump _ _ _ _ s t e (Whole x _ f) (Octet d _ n m) = absurd (m x s f (sym e))
one_lump _ _ _ _ s t e (Whole x _ f) (Separator d _ n) = absurd (whole_separator x s t d f n e)
one_lump _ _ _ _ s t e (Octet c _ n m) (Whole y _ g) = absurd (m y t g e)
one_lump _ _ _ _ s t e (Octet c _ n m) (Octet d _ k l) = let h : c ≡ d = cc in same _ _ _ _ s t e (ap (λ (u : ℕ). Some (u ∷ [])) h) (ap (λ (u : ℕ). u ∷ []) h)
one_lump _ _ _ _ s t e (Octet c _ n m) (Separator d _ k) = let h : c ≡ d = cc in let i : is_separator c ≡ true = ap is_separator h ∙ k in absurd cc
one_lump _ _ _ _ s t e (Separator c _ n) (Whole y _ g) = absurd (whole_separator y t s c g n (sym e))
one_lump _ _ _ _ s t e (Separator c _ n) (Octet d _ k l) = let h : c ≡ d = cc in let i : is_separator d ≡ true = ap is_separator (sym h) ∙ n in absurd cc
one_lump _ _ _ _ s t e (Separator c _ n) (Separator d _ k) = let h : c ≡ d = cc in same _ _ _ _ s t e refl (ap (λ (u : ℕ). u ∷ []) h)

pub some_lump : (v : Option (List ℕ)) (x s : List ℕ) → IsLump v x s → x ≢ []
some_lump _ _ s (Whole x _ f) = whole_some x f
some_lump _ _ s (Octet c _ n m) = λ e. absurd cc
some_lump _ _ s (Separator c _ n) = λ e. absurd cc

-- a text begins with one lump
pub lump_determined : IsDetermined IsLump
lump_determined = record { one = one_lump; some = some_lump }

-- no lump of an element begins with a separator
pub lump_separator : (u x s t : List ℕ) → t ≡ x ++ s → IsLump (Some u) x s → is_separator (first_octet t) ≡ true → ⊥
lump_separator u x s [] e l n = absurd cc
lump_separator u x s (c ∷ t) e l n = let v = (one_lump (Some u) None x (c ∷ []) s t (sym e) l (Separator c t n)).value in absurd cc

-- ---- lumps at the front of a text

-- what follows them is no longer than the text
pub lumps_len : (us : List (List ℕ)) (r t : List ℕ) → AreLumpsBefore us r t → length r ≤ length t
lumps_len [] r t h = omega (arith, ap length h)
lumps_len (u ∷ us) r t h = omega (arith, lumps_len us r h.rest h.more, ap length h.whole, length-append h.unit h.rest)

positive : (x : List ℕ) → x ≢ [] → 0 < length x
positive [] k = absurd (k refl)
positive (c ∷ x) k = omega arith

pub record Past (us ls : List (List ℕ)) (s r : List ℕ) : Type 0 where
  pub more : List (List ℕ)
  pub whole : ls ≡ us ++ more
  pub are : AreLumpsBefore more s r

-- lumps up to a place begin with those up to an earlier one
pub past : (us ls : List (List ℕ)) (r s t : List ℕ) → AreLumpsBefore us r t → AreLumpsBefore ls s t → length s ≤ length r → Past us ls s r
past [] ls r s t g h le = record { more = ls; whole = refl; are = subst (λ (u : List ℕ). AreLumpsBefore ls s u) g h }
past (u ∷ us) [] r s t g h le =
    absurd (omega (arith, le, ap length h, ap length g.whole, length-append g.unit g.rest, positive g.unit (some_lump (Some u) g.unit g.rest g.is), lumps_len us r g.rest g.more))
past (u ∷ us) (l ∷ ls) r s t g h le =
    let o = one_lump (Some u) (Some l) g.unit h.unit g.rest h.rest (sym g.whole ∙ h.whole) g.is h.is in
    let v = o.value in
    let same : u ≡ l = cc in
    let p = past us ls r s h.rest (subst (λ (x : List ℕ). AreLumpsBefore us r x) o.rest g.more) h.more le in
    record { more = p.more; whole = ap (λ (x : List ℕ). x ∷ ls) (sym same) ∙ ap (λ (xs : List (List ℕ)). u ∷ xs) p.whole; are = p.are }

-- one lump more
pub append_lump : (us : List (List ℕ)) (u r q t : List ℕ) → AreLumpsBefore us r t → AreLumpsBefore (u ∷ []) q r → AreLumpsBefore (us ++ u ∷ []) q t
append_lump [] u r q t h g = subst (λ (x : List ℕ). AreLumpsBefore (u ∷ []) q x) (sym h) g
append_lump (v ∷ us) u r q t h g = record { unit = h.unit; rest = h.rest; whole = h.whole; is = h.is; more = append_lump us u r q h.rest h.more g }

empty_front : (x y : List ℕ) → x ++ y ≡ [] → x ≡ []
empty_front [] y e = refl
empty_front (c ∷ x) y e = absurd cc

-- the lumps of a whole text are the same
pub one_row : (us ls : List (List ℕ)) (t : List ℕ) → AreLumpsBefore us [] t → AreLumpsBefore ls [] t → us ≡ ls
one_row us ls t g h = let p = past us ls [] [] t g h (omega arith) in by p.more p.whole p.are
  where
    by : (ms : List (List ℕ)) → ls ≡ us ++ ms → AreLumpsBefore ms [] [] → us ≡ ls
    by [] w a = sym (w ∙ append-nil us)
    by (m ∷ ms) w a = absurd (some_lump (Some m) a.unit a.rest a.is (empty_front a.unit a.rest (sym a.whole)))
