-- The pieces of a value: each is determined, and is found unit by unit.
use Rattle.std.proofs.Common.{◌≡◌, ◌≢◌, ℕ, ◌+◌, ◌<◌, ◌≤◌, Bool, true, false, List, [], ◌∷◌, ◌++◌, length, take, drop, refl, sym, ap, ◌∙◌, subst, arith, append_assoc, eqb, eqb-true, eq-eqb, inl, inr, Option, Some, None}
use Rattle.std.proofs.Math.Seq.{take-add}
use Rattle.std.proofs.lemmas.List.{append-nil, append_cancel_left, append_cancel_right, length-append, length-drop, take_at, drop_at, drop-drop}
use Rattle.text_words.specs.Sequence.{SameStart}
use Rattle.header_tokens.specs.Tokens.{IsComment, IsQuoted}
use Rattle.header_tokens.specs.Closings.{BeginsUnclosed}
use Rattle.header_tokens.specs.Kinds.{first_octet}
use Rattle.mime_fields.specs.ContentIds.{IsUnclosed}
use Rattle.mime_fields.specs.Pieces.{IsClosedUnit, QuotedText, CommentText, OneOctet, is_semicolon, ArePieceUnits, IsPieceBefore, BeginsWithPiece}
use Rattle.mime_fields.specs.reading.PieceSteps.{UnitOf, EndsPiece}
use Rattle.mime_fields.proofs.IdLemmas.{comment_first, quoted_first, comment_no_quoted, one_comment, one_quoted, heads}

-- ---- a text begins with one unit at most

same : (x y s t : List ℕ) → x ++ s ≡ y ++ t → x ≡ y → SameStart x y x y s t
same x y s t e q = record { value = q; unit = q; rest = append_cancel_left y s t (ap (λ (u : List ℕ). u ++ s) (sym q) ∙ e) }

from_quoted : (x s w y t : List ℕ) → x ++ s ≡ y ++ t → IsQuoted x → IsClosedUnit w y t → SameStart x w x y s t
from_quoted x s _ _ t e i (QuotedText y _ j) = same x y s t e (one_quoted x y s t e i j)
from_quoted x s _ _ t e i (CommentText y _ j) = absurd (comment_no_quoted y x t s (sym e) j i)
from_quoted x s _ _ t e i (OneOctet c _ n) = absurd (n.quoted x s i (sym e))

from_comment : (x s w y t : List ℕ) → x ++ s ≡ y ++ t → IsComment x → IsClosedUnit w y t → SameStart x w x y s t
from_comment x s _ _ t e i (QuotedText y _ j) = absurd (comment_no_quoted x y s t e i j)
from_comment x s _ _ t e i (CommentText y _ j) = same x y s t e (one_comment x y s t e i j)
from_comment x s _ _ t e i (OneOctet c _ n) = absurd (n.comment x s i (sym e))

from_octet : (c : ℕ) (s w y t : List ℕ) → c ∷ s ≡ y ++ t → IsUnclosed (c ∷ s) → IsClosedUnit w y t → SameStart (c ∷ []) w (c ∷ []) y s t
from_octet c s _ _ t e n (QuotedText y _ j) = absurd (n.quoted y t j e)
from_octet c s _ _ t e n (CommentText y _ j) = absurd (n.comment y t j e)
from_octet c s _ _ t e n (OneOctet d _ m) = same (c ∷ []) (d ∷ []) s t e (ap (λ (u : ℕ). u ∷ []) (heads c d s t e))

one_unit : (v w x y s t : List ℕ) → x ++ s ≡ y ++ t → IsClosedUnit v x s → IsClosedUnit w y t → SameStart v w x y s t
one_unit _ w _ y s t e (QuotedText x _ i) u = from_quoted x s w y t e i u
one_unit _ w _ y s t e (CommentText x _ i) u = from_comment x s w y t e i u
one_unit _ w _ y s t e (OneOctet c _ n) u = from_octet c s w y t e n u

-- a unit has an octet
pub some_unit : (v x s : List ℕ) → IsClosedUnit v x s → x ≢ []
some_unit _ _ s (QuotedText x _ i) = λ e. let q = sym i.whole ∙ e in absurd cc
some_unit _ _ s (CommentText x _ i) = λ e. let q = sym i.whole ∙ e in absurd cc
some_unit _ _ s (OneOctet c _ n) = λ e. absurd cc

-- ---- and with one piece

no_semicolon : (v x s r : List ℕ) → IsClosedUnit v x s → 59 ∷ r ≡ x ++ s → is_semicolon v ≡ true
no_semicolon _ _ s r (QuotedText x _ i) e = absurd (let q = quoted_first x s r 59 i e in omega arith)
no_semicolon _ _ s r (CommentText x _ i) e = absurd (let q = comment_first x s r 59 i e in omega arith)
no_semicolon _ _ s r (OneOctet c _ n) e = eq-eqb c 59 (sym (heads 59 c r s e))

no_unit_first : (v x s r : List ℕ) → IsClosedUnit v x s → is_semicolon v ≡ false → EndsPiece r → r ≡ x ++ s → ⊥
no_unit_first v x s [] i n e w = some_unit v x s i (empty_front x s (sym w))
  where
    empty_front : (x s : List ℕ) → x ++ s ≡ [] → x ≡ []
    empty_front [] s e = refl
    empty_front (c ∷ x) s e = absurd cc
no_unit_first v x s (c ∷ r) i n e w = let q = no_semicolon v x s r i (ap (λ (u : ℕ). u ∷ r) (sym e) ∙ w) in absurd cc

one_end : (us vs : List (List ℕ)) (r q t : List ℕ) → ArePieceUnits us r t → ArePieceUnits vs q t → EndsPiece r → EndsPiece q → r ≡ q
one_end [] [] r q t g h e f = sym g ∙ h
one_end [] (v ∷ vs) r q t g h e f = absurd (no_unit_first v h.1.unit h.1.rest r h.1.is h.0 e (sym g ∙ h.1.whole))
one_end (u ∷ us) [] r q t g h e f = absurd (no_unit_first u g.1.unit g.1.rest q g.1.is g.0 f (sym h ∙ g.1.whole))
one_end (u ∷ us) (v ∷ vs) r q t g h e f =
    let s = one_unit u v g.1.unit h.1.unit g.1.rest h.1.rest (sym g.1.whole ∙ h.1.whole) g.1.is h.1.is in
    let P : List ℕ → Type 0 = λ x. ArePieceUnits vs q x in
    one_end us vs r q g.1.rest g.1.more (subst P (sym s.rest) h.1.more) e f

one_before : (p q r s t : List ℕ) → IsPieceBefore p r t → IsPieceBefore q s t → EndsPiece r → EndsPiece s → (p ≡ q) × (r ≡ s)
one_before p q r s t g h e f =
    let w = one_end g.units h.units r s t g.are h.are e f in
    (append_cancel_right p q s (ap (λ (u : List ℕ). p ++ u) (sym w) ∙ sym g.whole ∙ h.whole), w)

-- a value begins with one piece, and the same follows it
pub one_piece : (p q : List ℕ) (r s : Option (List ℕ)) (t : List ℕ) → BeginsWithPiece p r t → BeginsWithPiece q s t → (p ≡ q) × (r ≡ s)
one_piece p q None None t g h = ((one_before p q [] [] t g h tt tt).0, refl)
one_piece p q None (Some s) t g h = let w = (one_before p q [] (59 ∷ s) t g h tt refl).1 in absurd cc
one_piece p q (Some r) None t g h = let w = (one_before p q (59 ∷ r) [] t g h refl tt).1 in absurd cc
one_piece p q (Some r) (Some s) t g h =
    let w = one_before p q (59 ∷ r) (59 ∷ s) t g h refl refl in
    (w.0, let e : r ≡ s = ap (drop 1) w.1 in ap (λ (u : List ℕ). Some u) e)

-- ---- unit by unit

-- what begins with a piece at an offset begins so with it and the octets before
abbrev pub PieceOf : ℕ → List ℕ → Type 0
PieceOf at t = (p rest : List ℕ) → IsPieceBefore p rest (drop at t) → IsPieceBefore (take at t ++ p) rest t

-- at the front nothing stands before
pub piece_begins : (t : List ℕ) → PieceOf 0 t
piece_begins t = λ p rest h. h

first_is : (u s t : List ℕ) → t ≡ u ++ s → u ≢ [] → (first_octet t ≡ 59 → ⊥) → is_semicolon u ≡ false
first_is [] s t e k n = absurd (k refl)
first_is (c ∷ []) s t e k n = by (eqb c 59) refl
  where
    by : (q : Bool) → eqb c 59 ≡ q → q ≡ false
    by true f = absurd (n (ap first_octet e ∙ eqb-true c 59 f))
    by false f = refl
first_is (c ∷ d ∷ u) s t e k n = refl

-- a unit that is no semicolon is the piece's
pub piece_more : (at n : ℕ) (t : List ℕ) → PieceOf at t → UnitOf n (drop at t) → (first_octet (drop at t) ≡ 59 → ⊥) → PieceOf (at + n) t
piece_more at n t h u k = λ p rest g.
    let behind : drop (at + n) t ≡ u.rest = sym (drop-drop n at t) ∙ ap (drop n) u.whole ∙ drop_at u.unit u.rest n (sym u.counted) in
    let front : take n (drop at t) ≡ u.unit = ap (take n) u.whole ∙ take_at u.unit u.rest n (sym u.counted) in
    let P : List ℕ → Type 0 = λ x. IsPieceBefore p rest x in
    let m = subst P behind g in
    let Q : List ℕ → Type 0 = λ x. IsPieceBefore x rest t in
    subst Q (sym (append_assoc (take at t) u.unit p) ∙ ap (λ (x : List ℕ). x ++ p) (ap (λ (x : List ℕ). take at t ++ x) (sym front) ∙ sym (take-add at n t)))
    (h (u.unit ++ p) rest (record {
      units = u.unit ∷ m.units;
      are = (
        first_is u.unit u.rest (drop at t) u.whole (some_unit u.unit u.unit u.rest u.is) k,
        record { unit = u.unit; rest = u.rest; whole = u.whole; is = u.is; more = m.are },
      );
      whole = u.whole ∙ ap (λ (x : List ℕ). u.unit ++ x) m.whole ∙ sym (append_assoc u.unit p rest);
    }))

-- the octets so far are the piece, where it ends there
pub piece_ends : (at : ℕ) (t : List ℕ) → PieceOf at t → IsPieceBefore (take at t) (drop at t) t
piece_ends at t h =
    let P : List ℕ → Type 0 = λ x. IsPieceBefore x (drop at t) t in
    subst P (append-nil (take at t)) (h [] (drop at t) (record { units = []; are = refl; whole = refl }))

pub record Moves (at n : ℕ) (t : List ℕ) : Type 0 where
  pub some : 0 < n
  pub within : at + n ≤ length t

-- a unit lies within the text, and has an octet
pub unit_moves : (at n : ℕ) (t : List ℕ) → at ≤ length t → UnitOf n (drop at t) → Moves at n t
unit_moves at n t le u = record {
  some = positive u.unit (some_unit u.unit u.unit u.rest u.is) u.counted;
  within = omega (arith, u.counted, ap length u.whole, length-append u.unit u.rest, length-drop at t);
}
  where
    positive : (x : List ℕ) → x ≢ [] → n ≡ length x → 0 < n
    positive [] k h = absurd (k refl)
    positive (c ∷ x) k h = omega (arith, h)

-- a semicolon ends a piece
pub ends_at : (t : List ℕ) → first_octet t ≡ 59 → EndsPiece t
ends_at [] e = tt
ends_at (c ∷ t) e = e

-- so does the end
pub ends_nothing : (t : List ℕ) → t ≡ [] → EndsPiece t
ends_nothing t e = let P : List ℕ → Type 0 = λ u. EndsPiece u in subst P (sym e) tt

-- what ends a piece and is no semicolon is nothing
pub nothing_ends : (t : List ℕ) → EndsPiece t → ((u : List ℕ) → t ≢ 59 ∷ u) → t ≡ []
nothing_ends [] e n = refl
nothing_ends (c ∷ t) e n = absurd (n t (ap (λ (x : ℕ). x ∷ t) e))

-- ---- the unit at the front

-- what begins with nothing that is closed begins with no comment and no quoted text
pub unclosed : (t : List ℕ) → BeginsUnclosed t → IsUnclosed t
unclosed t n = record { comment = λ x y i. n x y (inr (inl i)); quoted = λ x y i. n x y (inl i) }

-- an octet that begins neither a quoted text nor a comment
pub unit_one : (t : List ℕ) → 0 < length t → IsUnclosed t → UnitOf 1 t
unit_one [] h n = absurd (omega arith)
unit_one (c ∷ t) h n = record { unit = c ∷ []; rest = t; whole = refl; is = OneOctet c t n; counted = refl }

-- a comment
pub unit_comment : (t x rest : List ℕ) → IsComment x → t ≡ x ++ rest → UnitOf (length x) t
unit_comment t x rest i e = record { unit = x; rest = rest; whole = e; is = CommentText x rest i; counted = refl }

-- a quoted text
pub unit_quoted : (t x rest : List ℕ) → IsQuoted x → t ≡ x ++ rest → UnitOf (length x) t
unit_quoted t x rest i e = record { unit = x; rest = rest; whole = e; is = QuotedText x rest i; counted = refl }
