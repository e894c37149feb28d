-- Spellings at the front of octets.
use Rattle.std.proofs.Common.{◌≡◌, ℕ, ◌+◌, ◌<◌, ◌≤◌, List, [], ◌∷◌, ◌++◌, length, take, Option, Some, refl, sym, ap, subst, ◌∙◌}
use Rattle.std.specs.Prelude.{◌≢◌}
use Rattle.imap_automaton.specs.Responses.{responses}
use Rattle.imap_automaton.proofs.Lawful.{responses_lawful}
use Rattle.imap_grammar.specs.declared.answer.Scan.{Scan}
use Rattle.imap_grammar.specs.declared.answer.Scan.TheVariants as scan
use Rattle.imap_grammar.specs.Scan.{IsResponsePrefix, IsProperResponsePrefix, ScanOf}
use Rattle.imap_grammar.specs.Fed.{scan_of}
use Rattle.imap_grammar.proofs.Readings.{one_text_value}
use Rattle.imap_types.specs.declared.response.Response.{Response}
use Rattle.imap_types.specs.Spells.{Spells, IsSpelling}
use Rattle.pushdown.specs.declared.answer.Answer.{Answer}
use Rattle.pushdown.specs.declared.answer.Answer.TheVariants as answer
use Rattle.pushdown.specs.Answers as texts
use Rattle.pushdown.proofs.Alone as alone

-- ---- spellings are whole texts of the automaton's language, and prefixes its prefixes

whole_of : (v : Response) (b : List ℕ) → IsSpelling v b → texts.IsWhole responses b
whole_of v b h = record { text = h.text; reads = (v, h.spells); octets = h.octets; within = h.within }

spelling_of : (b : List ℕ) → texts.IsWhole responses b → (v : Response) × IsSpelling v b
spelling_of b h = (h.reads.0, record { text = h.text; spells = h.reads.1; octets = h.octets; within = h.within })

prefix_of : (b : List ℕ) → IsResponsePrefix b → texts.IsPrefix responses b
prefix_of b h = record { text = h.text; more = h.more; reads = (h.response, h.spells); octets = h.octets; within = h.within }

proper_of : (b : List ℕ) → IsProperResponsePrefix b → texts.IsProperPrefix responses b
proper_of b h = record { text = h.text; more = h.more; reads = (h.response, h.spells); octets = h.octets; within = h.within; proper = h.proper }

to_prefix : (b : List ℕ) → texts.IsPrefix responses b → IsResponsePrefix b
to_prefix b h = record { response = h.reads.0; text = h.text; more = h.more; spells = h.reads.1; octets = h.octets; within = h.within }

to_proper : (b : List ℕ) → texts.IsProperPrefix responses b → IsProperResponsePrefix b
to_proper b h = record { response = h.reads.0; text = h.text; more = h.more; spells = h.reads.1; octets = h.octets; within = h.within; proper = h.proper }

-- what the automaton answers, as what is said of responses
pub scanned : (b : List ℕ) (p : Answer) → texts.AnswerOf responses b p → ScanOf b (scan_of p)
scanned b (answer.Whole n) h = (h.0, spelling_of (take n b) h.1)
scanned b answer.NeedMore h = to_proper b h
scanned b (answer.Bad at) h = (h.0, λ p. h.1 (prefix_of (take (at + 1) b) p), to_proper (take at b) h.2)

-- where the answer told of responses is that more is needed, the automaton's is too
pub more_of : (p : Answer) → scan_of p ≡ scan.NeedMore → p ≡ answer.NeedMore
more_of (answer.Whole n) e = absurd cc
more_of answer.NeedMore e = refl
more_of (answer.Bad at) e = absurd cc

abbrev answer_of : Scan → Answer
answer_of (scan.Whole n) = answer.Whole n
answer_of scan.NeedMore = answer.NeedMore
answer_of (scan.Bad at) = answer.Bad at

back_again : (p : Scan) → scan_of (answer_of p) ≡ p
back_again (scan.Whole n) = refl
back_again scan.NeedMore = refl
back_again (scan.Bad at) = refl

answered : (b : List ℕ) (p : Scan) → ScanOf b p → texts.AnswerOf responses b (answer_of p)
answered b (scan.Whole n) h = (h.0, whole_of h.1.0 (take n b) h.1.1)
answered b scan.NeedMore h = proper_of b h
answered b (scan.Bad at) h = (h.0, λ p. h.1 (to_prefix (take (at + 1) b) p), proper_of (take at b) h.2)

-- ---- spellings

-- two spellings at the front of the same octets are one
pub spelling_front : (v w : Response) (t u x y : List ℕ) → IsSpelling v t → IsSpelling w u → t ++ x ≡ u ++ y → (v ≡ w) × (t ≡ u) × (x ≡ y)
unfolding whole_of
spelling_front v w t u x y h k e =
    let q = alone.whole_front responses responses_lawful t u x y (whole_of v t h) (whole_of w u k) e in
    (one_text_value v w h.text h.spells (subst (Spells w) q.0 k.spells), q.1, q.2)

-- octets spell at most one value
pub spelling_value : (v w : Response) (b : List ℕ) → IsSpelling v b → IsSpelling w b → v ≡ w
spelling_value v w b h k = (spelling_front v w b b [] [] h k refl).0

-- no spelling is a proper front of another
pub spelling_alone : (v w : Response) (b more : List ℕ) → IsSpelling v b → IsSpelling w (b ++ more) → more ≡ []
spelling_alone v w b more h k = (alone.whole_within responses responses_lawful b (b ++ more) more (whole_of v b h) (whole_of w (b ++ more) k) refl).1

-- what is whole is a spelling
pub whole_spelling : (b : List ℕ) (n : ℕ) → ScanOf b (scan.Whole n) → (v : Response) × IsSpelling v (take n b)
whole_spelling b n h = h.1

-- where more is needed no spelling stands at the front
pub need_more_none : (b : List ℕ) → ScanOf b scan.NeedMore → (v : Response) (t x : List ℕ) → IsSpelling v t → b ≡ t ++ x → ⊥
need_more_none b h v t x k e = alone.proper_none responses responses_lawful b (proper_of b h) t x (whole_of v t k) e

-- where an octet is bad no spelling stands at the front
pub bad_none : (b : List ℕ) (at : ℕ) → ScanOf b (scan.Bad at) → (v : Response) (t x : List ℕ) → IsSpelling v t → b ≡ t ++ x → ⊥
bad_none b at h v t x k e = alone.bad_none responses responses_lawful b at (answered b (scan.Bad at) h) t x (whole_of v t k) e

-- a spelling has an octet
pub spelling_some : (v : Response) (t : List ℕ) → IsSpelling v t → t ≢ []
spelling_some v t h = alone.whole_some responses responses_lawful t (whole_of v t h)

-- one answer is right
pub one_answer : (b : List ℕ) (p q : Scan) → ScanOf b p → ScanOf b q → p ≡ q
one_answer b p q h k = sym (back_again p) ∙ ap scan_of (alone.one_answer responses responses_lawful b (answer_of p) (answer_of q) (answered b p h) (answered b q k)) ∙ back_again q
