-- Blobs and reply marks at the front of a text.
use Rattle.std.proofs.Common.{◌≡◌, ◌≢◌, ℕ, ◌<◌, Bool, true, false, List, [], ◌∷◌, ◌++◌, length, refl, sym, ap, ◌∙◌, subst, append_assoc, codes, ◌⊎◌, inl, inr, arith}
use Rattle.std.specs.Char.{to_ascii_lowercase}
use Rattle.std.proofs.lemmas.List.{length-append}
use Rattle.text_words.specs.Cuts.{Each, Stops, front, back}
use Rattle.text_words.specs.Octets.{is_blank, is_alpha, is_between, SameText}
use Rattle.text_words.proofs.CutLemmas.{front_back, front_each, back_stops, front_is, back_is, one_cut, one_run, run_cut}
use Rattle.thread_rule.specs.Subject.{is_blob_char, IsBlob, IsReplyWord, Re, Fw, Fwd, IsReplyMark}
use Rattle.thread_rule.specs.BaseSubject.{Drops, DropsBlob, Lacks}
use Rattle.thread_rule.specs.reading.Stripping.{PassesBlob, Dropped, Absent}

-- a blob before a text is "[", what stands inside, "]" and the white space of the blob, and then the text
pub blob_whole : (b t : List ℕ) (i : IsBlob b) → b ++ t ≡ 91 ∷ (i.inside ++ 93 ∷ (i.gap ++ t))
blob_whole b t i = ap (λ (u : List ℕ). u ++ t) i.whole ∙ ap (λ (u : List ℕ). 91 ∷ u) (append_assoc i.inside (93 ∷ i.gap) t)

-- a text of which a blob is dropped is "[", what stands inside, "]" and white space, and then what is left
pub drops_whole : (s t : List ℕ) (d : DropsBlob s t) → s ≡ 91 ∷ (d.drops.is.inside ++ 93 ∷ (d.drops.is.gap ++ t))
drops_whole s t d = d.drops.whole ∙ blob_whole d.drops.piece t d.drops.is

-- one blob at most stands at the front
pub one_blob : (s t u : List ℕ) → DropsBlob s t → DropsBlob s u → t ≡ u
one_blob s t u d e =
    let a = d.drops.is in
    let b = e.drops.is in
    let p = drops_whole s t d in
    let q = drops_whole s u e in
    let inner : a.inside ++ 93 ∷ (a.gap ++ t) ≡ b.inside ++ 93 ∷ (b.gap ++ u) = cc in
    let r = one_run is_blob_char a.inside (a.gap ++ t) b.inside (b.gap ++ u) 93 a.chars b.chars refl inner in
    let c = one_cut is_blank a.gap b.gap t u r.back a.blank d.stops b.blank e.stops in
    c.back

-- where octets that may stand in a blob go from "[" up to "]", that blob is dropped with all white space after it
pub blob_here : (s i g : List ℕ) → s ≡ 91 ∷ i → back is_blob_char i ≡ 93 ∷ g → DropsBlob s (back is_blank g)
blob_here s i g e f =
    let inside = front is_blob_char i in
    let gap = front is_blank g in
    record {
      drops = record {
        piece = 91 ∷ (inside ++ 93 ∷ gap);
        whole = e ∙ ap (λ (u : List ℕ). 91 ∷ u) (front_back is_blob_char i ∙ ap (λ (u : List ℕ). inside ++ u) (f ∙ ap (λ (u : List ℕ). 93 ∷ u) (front_back is_blank g))
            ∙ sym (append_assoc inside (93 ∷ gap) (back is_blank g)));
        is = record { inside = inside; gap = gap; whole = refl; chars = front_each is_blob_char i; blank = front_each is_blank g };
      };
      stops = back_stops is_blank g;
    }

-- where octets that may stand in a blob go from "[" up to another octet than "]", or to the end, no blob can be dropped
pub no_blob : (s i : List ℕ) → s ≡ 91 ∷ i → ((t : List ℕ) → back is_blob_char i ≢ 93 ∷ t) → Lacks DropsBlob s
no_blob s i e l t d =
    let a = d.drops.is in
    let w = drops_whole s t d in
    let inner : i ≡ a.inside ++ 93 ∷ (a.gap ++ t) = cc in
    let r = run_cut is_blob_char a.inside (a.gap ++ t) 93 a.chars refl in
    l (a.gap ++ t) (ap (back is_blob_char) inner ∙ sym r.back)

-- what is left when a blob is dropped is shorter than the text
pub blob_shorter : (s t : List ℕ) → DropsBlob s t → length t < length s
blob_shorter s t d =
    let a = d.drops.is in
    omega (arith, ap length (drops_whole s t d), length-append a.inside (93 ∷ (a.gap ++ t)), length-append a.gap t)

-- reply words are letters
pub letter_of : (c d : ℕ) → to_ascii_lowercase c ≡ d → is_between 97 122 d ≡ true → is_alpha c ≡ true
letter_of c d e b = grind arith

-- a letter is no white space
pub no_blank_letter : (c : ℕ) → is_alpha c ≡ true → is_blank c ≡ false
no_blank_letter c b = grind arith

-- white space is no letter
pub no_letter_blank : (c : ℕ) → is_blank c ≡ true → is_alpha c ≡ false
no_letter_blank c b = grind arith

-- a word of one or more letters
pub record IsLetters (w : List ℕ) : Type 0 where
  pub first : ℕ
  pub more : List ℕ
  pub whole : w ≡ first ∷ more
  pub letter : is_alpha first ≡ true
  pub letters : Each is_alpha w

-- the reply word "re" is letters alone
pub re_letters : (w : List ℕ) → SameText w (codes "re") → IsLetters w
re_letters [] e = absurd cc
re_letters (a ∷ []) e = absurd cc
re_letters (a ∷ b ∷ []) e =
    let p : to_ascii_lowercase a ≡ 114 = cc in
    let q : to_ascii_lowercase b ≡ 101 = cc in
    record { first = a; more = b ∷ []; whole = refl; letter = letter_of a 114 p refl; letters = (letter_of a 114 p refl, (letter_of b 101 q refl, tt)) }
re_letters (a ∷ b ∷ c ∷ t) e = absurd cc

-- the reply word "fw" is letters alone
pub fw_letters : (w : List ℕ) → SameText w (codes "fw") → IsLetters w
fw_letters [] e = absurd cc
fw_letters (a ∷ []) e = absurd cc
fw_letters (a ∷ b ∷ []) e =
    let p : to_ascii_lowercase a ≡ 102 = cc in
    let q : to_ascii_lowercase b ≡ 119 = cc in
    record { first = a; more = b ∷ []; whole = refl; letter = letter_of a 102 p refl; letters = (letter_of a 102 p refl, (letter_of b 119 q refl, tt)) }
fw_letters (a ∷ b ∷ c ∷ t) e = absurd cc

-- the reply word "fwd" is letters alone
pub fwd_letters : (w : List ℕ) → SameText w (codes "fwd") → IsLetters w
fwd_letters [] e = absurd cc
fwd_letters (a ∷ []) e = absurd cc
fwd_letters (a ∷ b ∷ []) e = absurd cc
fwd_letters (a ∷ b ∷ c ∷ []) e =
    let p : to_ascii_lowercase a ≡ 102 = cc in
    let q : to_ascii_lowercase b ≡ 119 = cc in
    let r : to_ascii_lowercase c ≡ 100 = cc in
    record {
      first = a;
      more = b ∷ c ∷ [];
      whole = refl;
      letter = letter_of a 102 p refl;
      letters = (letter_of a 102 p refl, (letter_of b 119 q refl, (letter_of c 100 r refl, tt)));
    }
fwd_letters (a ∷ b ∷ c ∷ d ∷ t) e = absurd cc

-- each reply word is letters alone
pub word_letters : (w : List ℕ) → IsReplyWord w → IsLetters w
word_letters w (Re e) = re_letters w e
word_letters w (Fw e) = fw_letters w e
word_letters w (Fwd e) = fwd_letters w e

-- what may stand before the colon begins with no octet of the class
pub optional_stops : (p : ℕ → Bool) (b t : List ℕ) → p 58 ≡ false → p 91 ≡ false → (b ≡ []) ⊎ IsBlob b → Stops p (b ++ 58 ∷ t)
optional_stops p b t c o (inl e) = let P : List ℕ → Type 0 = λ u. Stops p (u ++ 58 ∷ t) in subst P (sym e) c
optional_stops p b t c o (inr i) = let P : List ℕ → Type 0 = λ u. Stops p u in subst P (sym (blob_whole b (58 ∷ t) i)) o

-- white space, then a blob if there is one, and then a colon don't begin with a letter
pub gap_stops : (g b t : List ℕ) → Each is_blank g → (b ≡ []) ⊎ IsBlob b → Stops is_alpha (g ++ (b ++ 58 ∷ t))
gap_stops [] b t e o = optional_stops is_alpha b t refl refl o
gap_stops (c ∷ g) b t e o = no_letter_blank c e.0

-- how a reply mark at the front is read
pub record ReadsMark (s t : List ℕ) : Type 0 where
  pub blob : List ℕ
  pub reply : IsReplyWord (front is_alpha s)
  pub rest : back is_blank (back is_alpha s) ≡ blob ++ 58 ∷ t
  pub optional : (blob ≡ []) ⊎ IsBlob blob

-- a text of which a reply mark is dropped is the word, the white space, the blob and the colon of the mark, and then what is left
pub mark_whole : (s t : List ℕ) (d : Drops IsReplyMark s t) → s ≡ d.is.word ++ (d.is.gap ++ (d.is.blob ++ 58 ∷ t))
mark_whole s t d =
    let m = d.is in
    d.whole ∙ ap (λ (u : List ℕ). u ++ t) m.whole ∙ append_assoc m.word (m.gap ++ (m.blob ++ 58 ∷ [])) t
    ∙ ap (λ (u : List ℕ). m.word ++ u) (append_assoc m.gap (m.blob ++ 58 ∷ []) t ∙ ap (λ (u : List ℕ). m.gap ++ u) (append_assoc m.blob (58 ∷ []) t))

-- of a text with a reply mark, the letters at the front are its word, and after white space stand a blob, if any, and the colon
pub mark_read : (s t : List ℕ) → Drops IsReplyMark s t → ReadsMark s t
mark_read s t d =
    let m = d.is in
    let w = mark_whole s t d in
    let letters = (word_letters m.word m.reply).letters in
    let stops = gap_stops m.gap m.blob t m.blank m.optional in
    let f = front_is is_alpha m.word (m.gap ++ (m.blob ++ 58 ∷ t)) letters stops in
    let b = back_is is_alpha m.word (m.gap ++ (m.blob ++ 58 ∷ t)) letters stops in
    let R : List ℕ → Type 0 = λ u. IsReplyWord u in
    record {
      blob = m.blob;
      reply = subst R (sym (ap (front is_alpha) w ∙ f)) m.reply;
      rest = ap (back is_blank) (ap (back is_alpha) w ∙ b) ∙ back_is is_blank m.gap (m.blob ++ 58 ∷ t) m.blank (optional_stops is_blank m.blob t refl refl m.optional);
      optional = m.optional;
    }

-- of a text that begins with a colon no blob can be dropped
pub no_blob_at_colon : (t : List ℕ) → Lacks DropsBlob (58 ∷ t)
no_blob_at_colon t u d = let w = drops_whole (58 ∷ t) u d in absurd cc

-- where a blob or nothing stands before a colon, dropping the blob, if there is one, leaves the colon at the front
pub passes_own : (b t : List ℕ) → (b ≡ []) ⊎ IsBlob b → PassesBlob (b ++ 58 ∷ t) (58 ∷ t)
passes_own b t (inl e) = let P : List ℕ → Type 0 = λ u. PassesBlob (u ++ 58 ∷ t) (58 ∷ t) in subst P (sym e) (Absent (no_blob_at_colon t) refl)
passes_own b t (inr i) = Dropped (record { drops = record { piece = b; whole = refl; is = i }; stops = refl })

-- dropping the blob at the front, if there is one, leaves one text
pub one_passed : (s t u : List ℕ) → PassesBlob s t → PassesBlob s u → t ≡ u
one_passed s t u (Dropped d) (Dropped e) = one_blob s t u d e
one_passed s t u (Dropped d) (Absent l e) = absurd (l t d)
one_passed s t u (Absent l d) (Dropped e) = absurd (l u e)
one_passed s t u (Absent l d) (Absent k e) = d ∙ sym e

-- after the word, its white space and a blob comes the colon
pub mark_passed : (s t r : List ℕ) → Drops IsReplyMark s t → PassesBlob (back is_blank (back is_alpha s)) r → r ≡ 58 ∷ t
mark_passed s t r d p =
    let m = mark_read s t d in
    let P : List ℕ → Type 0 = λ u. PassesBlob u r in
    one_passed (m.blob ++ 58 ∷ t) r (58 ∷ t) (subst P m.rest p) (passes_own m.blob t m.optional)

pub record Passed (s r : List ℕ) : Type 0 where
  pub blob : List ℕ
  pub whole : s ≡ blob ++ r
  pub optional : (blob ≡ []) ⊎ IsBlob blob

-- a text of which the blob at the front was dropped, if there was one, is that blob or nothing, and then what is left
pub passed_of : (s r : List ℕ) → PassesBlob s r → Passed s r
passed_of s r (Dropped d) = record { blob = d.drops.piece; whole = d.drops.whole; optional = inr d.drops.is }
passed_of s r (Absent l e) = record { blob = []; whole = sym e; optional = inl refl }

-- a reply word, white space, a blob if there is one, and a colon at the front of a text are a reply mark that can be dropped
pub mark_here : (s r t : List ℕ) → IsReplyWord (front is_alpha s) → PassesBlob (back is_blank (back is_alpha s)) r → r ≡ 58 ∷ t → Drops IsReplyMark s t
mark_here s r t w p e =
    let k = passed_of _ r p in
    let word = front is_alpha s in
    let rest = back is_alpha s in
    let gap = front is_blank rest in
    record {
      piece = word ++ (gap ++ (k.blob ++ 58 ∷ []));
      whole = front_back is_alpha s
          ∙ ap (λ (u : List ℕ). word ++ u) (front_back is_blank rest
          ∙ ap (λ (u : List ℕ). gap ++ u) (k.whole ∙ ap (λ (u : List ℕ). k.blob ++ u) e ∙ sym (append_assoc k.blob (58 ∷ []) t)) ∙ sym (append_assoc gap (k.blob ++ 58 ∷ []) t))
          ∙ sym (append_assoc word (gap ++ (k.blob ++ 58 ∷ [])) t);
      is = record { word = word; gap = gap; blob = k.blob; whole = refl; reply = w; blank = front_each is_blank rest; optional = k.optional };
    }

-- dropping a reply mark at the front leaves one text
pub one_mark : (s t u : List ℕ) → Drops IsReplyMark s t → Drops IsReplyMark s u → t ≡ u
one_mark s t u d e =
    let m = mark_read s u e in
    let P : List ℕ → Type 0 = λ x. PassesBlob x (58 ∷ u) in
    let k = mark_passed s t (58 ∷ u) d (subst P (sym m.rest) (passes_own m.blob u m.optional)) in
    cc

-- no text begins with a reply mark and with a blob
pub mark_is_no_blob : (s t u : List ℕ) → Drops IsReplyMark s t → DropsBlob s u → ⊥
mark_is_no_blob s t u d e =
    let m = d.is in
    let l = word_letters m.word m.reply in
    let w = mark_whole s t d in
    let v = drops_whole s u e in
    let f = ap (λ (x : List ℕ). x ++ (m.gap ++ (m.blob ++ 58 ∷ t))) l.whole in
    let is : l.first ≡ 91 = cc in
    let no : is_alpha 91 ≡ true = ap is_alpha (sym is) ∙ l.letter in
    absurd cc
