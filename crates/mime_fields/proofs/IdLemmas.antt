-- The units of a Content-ID: each is determined by the text that begins with it, and so is what is kept.
use Rattle.std.proofs.Common.{◌≡◌, ◌≢◌, ℕ, ◌<◌, Bool, true, false, List, [], ◌∷◌, ◌++◌, length, get_or, cond, refl, sym, ap, ◌∙◌, subst, arith}
use Rattle.std.specs.List.{filter, flat_map}
use Rattle.std.proofs.lemmas.Grind.{flat_map-append}
use Rattle.std.proofs.lemmas.List.{append-nil, append_cancel_left, length-append}
use Rattle.text_words.specs.Octets.{is_white}
use Rattle.text_words.specs.Sequence.{SameStart, IsDetermined}
use Rattle.text_words.proofs.SequenceLemmas.{Behind, begins, one_more, all_done, one_reading, determined}
use Rattle.header_tokens.specs.declared.token.Alphabet.TheVariants as alphabet
use Rattle.header_tokens.specs.declared.token.Kind.{Kind}
use Rattle.header_tokens.specs.declared.token.Kind.TheVariants as kind
use Rattle.mail_header.specs.Lines.{unfolded}
use Rattle.header_tokens.specs.Tokens.{IsComment, IsQuoted, IsToken}
use Rattle.header_tokens.specs.reading.TokenReading.{spelled_in}
use Rattle.header_tokens.proofs.OneToken.{token_reader}
use Rattle.mime_fields.specs.ContentIds.{is_visible_octet, is_opener, IsUnclosed, IsUnit, White, Comment, Quoted, Octet, Unclosed, IsWithoutGaps}
use Rattle.mime_fields.specs.reading.IdUnits.{BeginsWithOpener, TakesUnit}

-- ---- a text begins with one unit at most

-- a comment begins with a parenthesis
pub comment_first : (x s t : List ℕ) (c : ℕ) → IsComment x → c ∷ t ≡ x ++ s → c ≡ 40
comment_first x s t c b e = let q : c ∷ t ≡ 40 ∷ ((b.contents ++ 41 ∷ []) ++ s) = e ∙ ap (λ (u : List ℕ). u ++ s) b.whole in cc

-- a quoted text begins with a quotation mark
pub quoted_first : (x s t : List ℕ) (c : ℕ) → IsQuoted x → c ∷ t ≡ x ++ s → c ≡ 34
quoted_first x s t c b e = let q : c ∷ t ≡ 34 ∷ ((b.contents ++ 34 ∷ []) ++ s) = e ∙ ap (λ (u : List ℕ). u ++ s) b.whole in cc

-- no comment is a quoted text
pub comment_no_quoted : (x y s t : List ℕ) → x ++ s ≡ y ++ t → IsComment x → IsQuoted y → ⊥
comment_no_quoted x y s t e b c =
    let f : 40 ∷ ((b.contents ++ 41 ∷ []) ++ s) ≡ y ++ t = ap (λ (u : List ℕ). u ++ s) (sym b.whole) ∙ e in
    let q = quoted_first y t ((b.contents ++ 41 ∷ []) ++ s) 40 c f in
    absurd cc

white_no_opener : (k : Bool) (c d : ℕ) → is_white c ≡ true → c ≡ d → is_opener k d ≡ true → ⊥
white_no_opener true c d w e o = let v : is_white d ≡ true = subst (λ (x : ℕ). is_white x ≡ true) e w in grind arith
white_no_opener false c d w e o = let v : is_white d ≡ true = subst (λ (x : ℕ). is_white x ≡ true) e w in grind arith

no_opener : (k : Bool) (c d : ℕ) → is_opener k c ≡ false → c ≡ d → is_opener k d ≡ true → ⊥
no_opener k c d n e o = let m : is_opener k d ≡ false = subst (λ (x : ℕ). is_opener k x ≡ false) e n in cc

opens_comment : (k : Bool) → k ≡ true → is_opener k 40 ≡ true
opens_comment true e = refl
opens_comment false e = absurd cc

opens_quoted : (k : Bool) → is_opener k 34 ≡ true
opens_quoted true = refl
opens_quoted false = refl

same : (v w x y s t : List ℕ) → x ++ s ≡ y ++ t → v ≡ w → x ≡ y → SameStart v w x y s t
same v w x y s t e p q = record { value = p; unit = q; rest = append_cancel_left y s t (ap (λ (u : List ℕ). u ++ s) (sym q) ∙ e) }

-- brackets of a kind
one_bracket : (k : Kind) (x y s t : List ℕ) → x ++ s ≡ y ++ t → IsToken alphabet.Mail (record { kind = k; text = x }) x s → IsToken alphabet.Mail
    (record { kind = k; text = y }) y t
    → x ≡ y
one_bracket k x y s t e i j =
    let d = determined (spelled_in alphabet.Mail) (token_reader alphabet.Mail) in
    let q = d.one (record { kind = k; text = x }) (record { kind = k; text = y }) x y s t e i j in
    q.unit

-- a text begins with one comment at most
pub one_comment : (x y s t : List ℕ) → x ++ s ≡ y ++ t → IsComment x → IsComment y → x ≡ y
one_comment x y s t e b c = one_bracket kind.Comment x y s t e (record { text_is = refl; spelled = b; ends = tt }) (record { text_is = refl; spelled = c; ends = tt })

-- a text begins with one quoted text at most
pub one_quoted : (x y s t : List ℕ) → x ++ s ≡ y ++ t → IsQuoted x → IsQuoted y → x ≡ y
one_quoted x y s t e b c = one_bracket kind.Quoted x y s t e (record { text_is = refl; spelled = b; ends = tt }) (record { text_is = refl; spelled = c; ends = tt })

-- equal texts begin with the same octet
pub heads : (c d : ℕ) (s t : List ℕ) → c ∷ s ≡ d ∷ t → c ≡ d
heads c d s t e = ap (λ (u : List ℕ). get_or u 0 0) e

white_visible : (c d : ℕ) → is_white c ≡ true → c ≡ d → is_white d ≡ false → ⊥
white_visible c d w e v = let u : is_white d ≡ true = subst (λ (x : ℕ). is_white x ≡ true) e w in cc

-- what begins with white space, a comment, a quoted text, another octet, or what isn't closed
from_white : (k : Bool) (c : ℕ) (s w y t : List ℕ) → c ∷ s ≡ y ++ t → is_white c ≡ true → IsUnit k w y t → SameStart [] w (c ∷ []) y s t
from_white k c s _ _ t e i (White d _ j) = same [] [] (c ∷ []) (d ∷ []) s t e refl (ap (λ (u : ℕ). u ∷ []) (heads c d s t e))
from_white k c s _ _ t e i (Comment y _ _ j) = absurd (white_visible c 40 i (comment_first y t s c j e) refl)
from_white k c s _ _ t e i (Quoted y _ j) = absurd (white_visible c 34 i (quoted_first y t s c j e) refl)
from_white k c s _ _ t e i (Octet d _ j l) = absurd (white_visible c d i (heads c d s t e) j)
from_white k c s _ _ _ e i (Unclosed d u o n) = absurd (white_no_opener k c d i (heads c d s (u ++ []) e) o)

from_comment : (k : Bool) (x s w y t : List ℕ) → x ++ s ≡ y ++ t → k ≡ true → IsComment x → IsUnit k w y t → SameStart [] w x y s t
from_comment k x s _ _ t e o i (White d _ j) = absurd (white_visible d 40 j (comment_first x s t d i (sym e)) refl)
from_comment k x s _ _ t e o i (Comment y _ _ j) = same [] [] x y s t e refl (one_comment x y s t e i j)
from_comment k x s _ _ t e o i (Quoted y _ j) = absurd (comment_no_quoted x y s t e i j)
from_comment k x s _ _ t e o i (Octet d _ j l) = absurd (no_opener k d 40 l (comment_first x s t d i (sym e)) (opens_comment k o))
from_comment k x s _ _ _ e o i (Unclosed d u p n) = absurd (n.comment x s i (sym (append-nil (d ∷ u)) ∙ sym e))

from_quoted : (k : Bool) (x s w y t : List ℕ) → x ++ s ≡ y ++ t → IsQuoted x → IsUnit k w y t → SameStart x w x y s t
from_quoted k x s _ _ t e i (White d _ j) = absurd (white_visible d 34 j (quoted_first x s t d i (sym e)) refl)
from_quoted k x s _ _ t e i (Comment y _ _ j) = absurd (comment_no_quoted y x t s (sym e) j i)
from_quoted k x s _ _ t e i (Quoted y _ j) = let q = one_quoted x y s t e i j in same x y x y s t e q q
from_quoted k x s _ _ t e i (Octet d _ j l) = absurd (no_opener k d 34 l (quoted_first x s t d i (sym e)) (opens_quoted k))
from_quoted k x s _ _ _ e i (Unclosed d u o n) = absurd (n.quoted x s i (sym (append-nil (d ∷ u)) ∙ sym e))

from_octet : (k : Bool) (c : ℕ) (s w y t : List ℕ) → c ∷ s ≡ y ++ t → is_white c ≡ false → is_opener k c ≡ false → IsUnit k w y t
    → SameStart (c ∷ []) w (c ∷ []) y s t
from_octet k c s _ _ t e i j (White d _ l) = absurd (white_visible d c l (heads d c t s (sym e)) i)
from_octet k c s _ _ t e i j (Comment y _ o l) = absurd (no_opener k c 40 j (comment_first y t s c l e) (opens_comment k o))
from_octet k c s _ _ t e i j (Quoted y _ l) = absurd (no_opener k c 34 j (quoted_first y t s c l e) (opens_quoted k))
from_octet k c s _ _ t e i j (Octet d _ l m) = let q = ap (λ (u : ℕ). u ∷ []) (heads c d s t e) in same (c ∷ []) (d ∷ []) (c ∷ []) (d ∷ []) s t e q q
from_octet k c s _ _ _ e i j (Unclosed d u o n) = absurd (no_opener k c d j (heads c d s (u ++ []) e) o)

from_unclosed : (k : Bool) (c : ℕ) (u w y t : List ℕ) → (c ∷ u) ++ [] ≡ y ++ t → is_opener k c ≡ true → IsUnclosed (c ∷ u) → IsUnit k w y t
    → SameStart (filter is_visible_octet (c ∷ u)) w (c ∷ u) y [] t
from_unclosed k c u _ _ t e o n (White d _ j) = absurd (white_no_opener k d c j (heads d c t (u ++ []) (sym e)) o)
from_unclosed k c u _ _ t e o n (Comment y _ _ j) = absurd (n.comment y t j (sym (append-nil (c ∷ u)) ∙ e))
from_unclosed k c u _ _ t e o n (Quoted y _ j) = absurd (n.quoted y t j (sym (append-nil (c ∷ u)) ∙ e))
from_unclosed k c u _ _ t e o n (Octet d _ j l) = absurd (no_opener k d c l (heads d c t (u ++ []) (sym e)) o)
from_unclosed k c u _ _ _ e o n (Unclosed d v p m) =
    let q : c ∷ u ≡ d ∷ v = sym (append-nil (c ∷ u)) ∙ e ∙ append-nil (d ∷ v) in
    same (filter is_visible_octet (c ∷ u)) (filter is_visible_octet (d ∷ v)) (c ∷ u) (d ∷ v) [] [] e (ap (filter is_visible_octet) q) q

one_unit : (k : Bool) (v w x y s t : List ℕ) → x ++ s ≡ y ++ t → IsUnit k v x s → IsUnit k w y t → SameStart v w x y s t
one_unit k _ w _ y s t e (White c _ i) u = from_white k c s w y t e i u
one_unit k _ w _ y s t e (Comment x _ o i) u = from_comment k x s w y t e o i u
one_unit k _ w _ y s t e (Quoted x _ i) u = from_quoted k x s w y t e i u
one_unit k _ w _ y s t e (Octet c _ i j) u = from_octet k c s w y t e i j u
one_unit k _ w _ y _ t e (Unclosed c v o n) u = from_unclosed k c v w y t e o n u

some_unit : (k : Bool) (v x s : List ℕ) → IsUnit k v x s → x ≢ []
some_unit k _ _ s (White c _ i) = λ e. absurd cc
some_unit k _ _ s (Comment x _ o i) = λ e. let q = sym i.whole ∙ e in absurd cc
some_unit k _ _ s (Quoted x _ i) = λ e. let q = sym i.whole ∙ e in absurd cc
some_unit k _ _ s (Octet c _ i j) = λ e. absurd cc
some_unit k _ _ _ (Unclosed c u o n) = λ e. absurd cc

unit_determined : (k : Bool) → IsDetermined (IsUnit k)
unit_determined k = record { one = one_unit k; some = some_unit k }

-- ---- the walk

-- these units were read, and rest is left
pub record Gathered (k : Bool) (kept rest b : List ℕ) : Type 0 where
  pub units : List (List ℕ)
  pub behind : Behind (IsUnit k) units rest b
  pub kept_are : kept ≡ flat_map (λ (unit : List ℕ). unit) units

-- before any unit was read, nothing is kept, and the whole text is left
pub nothing_gathered : (k : Bool) (b : List ℕ) → Gathered k [] b b
nothing_gathered k b = record { units = []; behind = begins (IsUnit k) b; kept_are = refl }

-- where the unit at the front of the rest was taken, what it adds is kept too, and what follows it is left
pub gathered_more : (k : Bool) (old new rest more b : List ℕ) → Gathered k old rest b → TakesUnit k rest more old new → Gathered k new more b
gathered_more k old new rest more b g t = record {
  units = g.units ++ t.kept ∷ [];
  behind = one_more (unit_determined k) g.units t.kept t.unit more rest b g.behind t.whole t.is;
  kept_are = t.added ∙ ap (λ (u : List ℕ). u ++ t.kept) g.kept_are
      ∙ ap (λ (u : List ℕ). flat_map (λ (unit : List ℕ). unit) g.units ++ u) (sym (append-nil t.kept))
      ∙ sym (flat_map-append (λ (unit : List ℕ). unit) g.units (t.kept ∷ []));
}

-- where nothing is left, what was kept, without its line ends, is what is kept of the whole text
pub gathered_all : (k : Bool) (kept rest b text : List ℕ) → Gathered k kept rest b → rest ≡ [] → text ≡ unfolded kept → IsWithoutGaps k text b
gathered_all k kept rest b text g e h = record { units = g.units; are = all_done g.units rest b g.behind e; kept_is = h ∙ ap unfolded g.kept_are }

-- what is left when a unit was taken is shorter than the text
pub takes_some : (k : Bool) (text rest old new : List ℕ) → TakesUnit k text rest old new → length rest < length text
takes_some k text rest old new t = by t.unit (some_unit k t.kept t.unit rest t.is) t.whole
  where
    by : (x : List ℕ) → x ≢ [] → text ≡ x ++ rest → length rest < length text
    by [] n e = absurd (n refl)
    by (c ∷ x) n e = omega (arith, ap length e, length-append (c ∷ x) rest)

-- ---- steps

-- an octet that opens nothing is taken, and kept unless it is white space
pub takes_octet : (k : Bool) (text rest old new : List ℕ) (c : ℕ) → text ≡ c ∷ rest → is_opener k c ≡ false → new ≡ old ++ filter is_visible_octet (c ∷ [])
    → TakesUnit k text rest old new
takes_octet k text rest old new c e o h = by (is_white c) refl
  where
    by : (q : Bool) → is_white c ≡ q → TakesUnit k text rest old new
    by true w = record { kept = []; unit = c ∷ []; whole = e; is = White c rest w; added = h ∙ ap (λ (p : Bool). old ++ cond (Rattle.std.specs.Prelude.not p) (c ∷ []) []) w }
    by false w = record {
      kept = c ∷ [];
      unit = c ∷ [];
      whole = e;
      is = Octet c rest w o;
      added = h ∙ ap
          (λ (p : Bool). old ++ cond (Rattle.std.specs.Prelude.not p) (c ∷ []) []) w;
    }

-- a text whose first octet is an opener begins with one
pub begins_with_opener : (k : Bool) (text rest : List ℕ) (c : ℕ) → text ≡ c ∷ rest → is_opener k c ≡ true → BeginsWithOpener k text
begins_with_opener k text rest c e o = let P : List ℕ → Type 0 = λ t. BeginsWithOpener k t in subst P (sym e) o

-- where a comment begins a text that begins with an opener, there are comments
has_comments : (k : Bool) (text x rest : List ℕ) → BeginsWithOpener k text → IsComment x → text ≡ x ++ rest → k ≡ true
has_comments true text x rest o b e = refl
has_comments false [] x rest o b e = absurd o
has_comments false (c ∷ t) x rest o b e = let q : is_opener false 40 ≡ true = subst (λ (u : ℕ). is_opener false u ≡ true) (comment_first x rest t c b e) o in absurd cc

-- a comment at the front of a text is taken, and nothing of it is kept
pub takes_comment : (text x rest old : List ℕ) → IsComment x → text ≡ x ++ rest → (k : Bool) → BeginsWithOpener k text → TakesUnit k text rest old old
takes_comment text x rest old b e k o = record { kept = []; unit = x; whole = e; is = Comment x rest (has_comments k text x rest o b e) b; added = sym (append-nil old) }

-- a quoted text at the front of a text is taken, and kept as it is
pub takes_quoted : (text x rest old new : List ℕ) → IsQuoted x → text ≡ x ++ rest → new ≡ old ++ x → (k : Bool) → TakesUnit k text rest old new
takes_quoted text x rest old new b e h k = record { kept = x; unit = x; whole = e; is = Quoted x rest b; added = h }

-- a text that begins with a parenthesis or a quote that isn't closed is taken whole, and kept without white space
pub takes_rest : (text rest old new : List ℕ) → ((x y : List ℕ) → IsComment x → text ≢ x ++ y) → ((x y : List ℕ) → IsQuoted x → text ≢ x ++ y)
    → rest ≡ [] → new ≡ old ++ filter is_visible_octet text → (k : Bool) → BeginsWithOpener k text → TakesUnit k text rest old new
takes_rest [] rest old new n m e h k o = absurd o
takes_rest (c ∷ t) rest old new n m e h k o =
    let P : List ℕ → Type 0 = λ r. TakesUnit k (c ∷ t) r old new in
    subst P (sym e) (record {
      kept = filter is_visible_octet (c ∷ t);
      unit = c ∷ t;
      whole = sym (append-nil (c ∷ t));
      is = Unclosed c t o (record { comment = n; quoted = m });
      added = h;
    })

-- ---- a text has one reading

-- two texts that are kept of the same text are the same
pub one_kept : (k : Bool) (x y t : List ℕ) → IsWithoutGaps k x t → IsWithoutGaps k y t → x ≡ y
one_kept k x y t g h =
    g.kept_is ∙ ap (λ (us : List (List ℕ)). unfolded (flat_map (λ (unit : List ℕ). unit) us)) (one_reading (unit_determined k) g.units h.units t g.are h.are) ∙ sym h.kept_is
