-- What a scanner's step answers.
use Rattle.std.proofs.Common.{◌≡◌, ℕ, ◌+◌, ◌-◌, ◌<◌, ◌≤◌, Bool, true, false, List, [], ◌∷◌, ◌++◌, length, take, cond, Some, None, refl, sym, ap, subst, ◌∙◌, append_assoc, arith}
use Rattle.std.proofs.lemmas.Bool.{cond-true, cond-false}
use Rattle.std.proofs.lemmas.List.{length-append, append-nil}
use Rattle.std.proofs.Math.Seq.{take-append_seam}
use Rattle.pushdown.specs.declared.answer.Answer.{Answer}
use Rattle.pushdown.specs.declared.answer.Answer.TheVariants as answer
use Rattle.pushdown.specs.declared.scanner.Scanner.{Scanner}
use Rattle.pushdown.specs.Automaton.{Automaton}
use Rattle.pushdown.specs.Symbols.{symbols_of}
use Rattle.pushdown.specs.Run.{step, inside_top, mark, cost}
use Rattle.pushdown.specs.Lawful.{IsLawful}
use Rattle.pushdown.specs.Answers.{IsWhole, IsPrefix, IsProperPrefix, AnswerOf}
use Rattle.pushdown.specs.Fed.{LeavesSymbols, Fed, FedUpTo, TakesOctet}
use Rattle.pushdown.proofs.Standing.{prefix_goes, no_prefix_none, stands_step, stands_whole, stands_proper}

-- the front that an octet ends, where it stands in a piece
octet_ends : (b piece front after : List ℕ) (c : ℕ) → piece ≡ front ++ c ∷ after → b ++ piece ≡ ((b ++ front) ++ c ∷ []) ++ after
octet_ends b piece front after c e =
    ap (λ (u : List ℕ). b ++ u) e ∙ sym (append_assoc b front (c ∷ after)) ∙ sym (append_assoc (b ++ front) (c ∷ []) after)

front_taken : (x after whole : List ℕ) (n : ℕ) → whole ≡ x ++ after → n ≡ length x → take n whole ≡ x
front_taken x after whole n e f = ap (λ (k : ℕ). take k whole) f ∙ ap (take (length x)) e ∙ take-append_seam x after

module _ {S : Type 0} (machine : Automaton S) (laws : IsLawful machine) where
  pub cost_is : (ss : List S) (inside : Bool) (k : ℕ) → inside ≡ inside_top machine ss → k ≡ cond inside 0 1 → k ≡ cost machine ss
  cost_is ss inside k e f = f ∙ ap (λ (b : Bool). cond b 0 1) e

  pub mark_is : (ss : List S) (inside : Bool) (c m : ℕ) → inside ≡ inside_top machine ss → m ≡ cond inside (c + 256) c → m ≡ mark machine ss c
  mark_is ss inside c m e f = f ∙ ap (λ (b : Bool). cond b (c + 256) c) e

  pub bad_by_limit : (ss : List S) (out : ℕ) (b : List ℕ) (c k : ℕ) → LeavesSymbols machine ss out b → c < 256 → k ≡ cost machine ss → machine.limit - out < k
      → IsPrefix machine (b ++ c ∷ []) → ⊥
  bad_by_limit ss out b c k h lt e over p = let g = prefix_goes machine laws ss out b c h lt p in omega (arith, g.within, e, over)

  pub bad_by_step : (ss left : List S) (out : ℕ) (b : List ℕ) (c m : ℕ) (went : Bool) → LeavesSymbols machine ss out b → c < 256 → m ≡ mark machine ss c
      → step machine ss m ≡ cond went (Some left) None
      → went ≡ false → IsPrefix machine (b ++ c ∷ []) → ⊥
  bad_by_step ss left out b c m went h lt e f n p =
      no_prefix_none machine laws ss out b c h lt (ap (step machine ss) (sym e) ∙ f ∙ cond-false went (Some left) None n) p

  pub went_is : (ss left : List S) (c m : ℕ) (went : Bool) → m ≡ mark machine ss c → step machine ss m ≡ cond went (Some left) None → went ≡ true
      → step machine ss (mark machine ss c) ≡ Some left
  went_is ss left c m went e f y = ap (step machine ss) (sym e) ∙ f ∙ cond-true went (Some left) None y

  pub goes_on : (ss left : List S) (out : ℕ) (b : List ℕ) (c k : ℕ) → LeavesSymbols machine ss out b → c < 256 → k ≡ cost machine ss → k ≤ machine.limit - out
      → step machine ss (mark machine ss c) ≡ Some left
      → LeavesSymbols machine left (out + k) (b ++ c ∷ [])
  goes_on ss left out b c k h lt e le went =
      let w : out + cost machine ss ≤ machine.limit = omega (arith, h.within, e, le) in
      subst (λ (n : ℕ). LeavesSymbols machine left (out + n) (b ++ c ∷ [])) (sym e) (stands_step machine laws ss left out b c h lt went w)

  pub nothing_left : (ss : List S) (out : ℕ) (b : List ℕ) → ss ≡ [] → LeavesSymbols machine ss out b → IsWhole machine b
  nothing_left ss out b e h = stands_whole machine laws out b (subst (λ (q : List S). LeavesSymbols machine q out b) e h)

  pub proper_of : (ss : List S) (out : ℕ) (b : List ℕ) → (ss ≡ [] → ⊥) → LeavesSymbols machine ss out b → IsProperPrefix machine b
  proper_of [] out b ne h = absurd (ne refl)
  proper_of (s ∷ ss) out b ne h = stands_proper machine laws s ss out b h

  pub fed_proper : (s : Scanner S) (b : List ℕ) → Fed machine s b → IsProperPrefix machine b
  fed_proper s b h = proper_of (symbols_of s.stack) s.outside b h.more h.stands

  -- ---- a piece

  -- what an octet of a piece is answered is what the whole is answered, unless more is needed
  pub answered : (b piece front after : List ℕ) (c : ℕ) (before new : Scanner S) (told : Answer) → piece ≡ front ++ c ∷ after → Fed machine before (b ++ front)
      → TakesOctet machine new (b ++ front) c told
      → (told ≡ answer.NeedMore → ⊥) → AnswerOf machine (b ++ piece) told
  answered b piece front after c before new answer.NeedMore e fed took ne = absurd (ne refl)
  answered b piece front after c before new (answer.Whole n) e fed took ne =
      let x = (b ++ front) ++ c ∷ [] in
      let whole = octet_ends b piece front after c e in
      let long : n ≡ length x = omega (arith, took.0, length-append (b ++ front) (c ∷ [])) in (
        omega (arith, long, ap length whole, length-append x after),
        subst (λ (u : List ℕ). IsWhole machine u) (sym (front_taken x after (b ++ piece) n whole long)) took.1,
      )
  answered b piece front after c before new (answer.Bad at) e fed took ne =
      let x = (b ++ front) ++ c ∷ [] in
      let whole = octet_ends b piece front after c e in
      let long : at + 1 ≡ length x = omega (arith, took.0, length-append (b ++ front) (c ∷ [])) in (
        omega (arith, long, ap length whole, length-append x after),
        λ p. took.1 (subst (IsPrefix machine) (front_taken x after (b ++ piece) (at + 1) whole long) p),
        subst (IsProperPrefix machine) (sym (front_taken (b ++ front) (c ∷ after) (b ++ piece) at (ap (λ (u : List ℕ). b ++ u) e
            ∙ sym (append_assoc b front (c ∷ after))) took.0))
            (fed_proper before (b ++ front) fed),
      )

  -- from one place of a piece to a later one
  pub up_to : (s new : Scanner S) (b piece rest left : List ℕ) → (h : FedUpTo machine s b piece rest) → FedUpTo machine new (b ++ h.front) rest left
      → FedUpTo machine new b piece left
  up_to s new b piece rest left h k = record {
    front = h.front ++ k.front;
    whole = h.whole ∙ ap (λ (u : List ℕ). h.front ++ u) k.whole ∙ sym (append_assoc h.front k.front left);
    fed = subst (Fed machine new) (append_assoc b h.front k.front) k.fed;
  }

  -- the whole piece
  pub all_fed : (s : Scanner S) (b piece rest : List ℕ) → FedUpTo machine s b piece rest → length rest ≡ 0 → Fed machine s (b ++ piece)
  all_fed s b piece [] h e = subst (λ (u : List ℕ). Fed machine s (b ++ u)) (sym (h.whole ∙ append-nil h.front)) h.fed
  all_fed s b piece (c ∷ rest) h e = absurd (omega (arith, e))

  -- an octet more
  pub next_fed : (new : Scanner S) (b front rest after : List ℕ) (c : ℕ) → rest ≡ c ∷ after → Fed machine new ((b ++ front) ++ c ∷ [])
      → FedUpTo machine new (b ++ front) rest after
  next_fed new b front rest after c e h = record { front = c ∷ []; whole = e; fed = h }
