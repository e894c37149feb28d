-- Bodies that are asked after others.
use Rattle.std.proofs.Common.{◌∙◌, ℕ, List, ◌∷◌, [], ◌++◌, append-nil, append_assoc, Option, refl, sym, ap, subst}
use Rattle.email_bodies.specs.Asking.{BodyAsk, unanswered, AreAsked, NoneAsked, OneMore, AreTried, AllAnswered, LastLacks, AreDue, AsksInVain}
use Rattle.email_bodies.specs.declared.source.MessagePlace.{MessagePlace}
use Rattle.email_bodies.proofs.Due.{none_due, one_due, due_more, due_after}

-- those before, and then further ones, are all of them
pub asks_join : {S : Type 0} (Answers : S → MessagePlace → Option (List ℕ) → S → Type 0) (before mid after : S) (asks more : List BodyAsk)
    → AreAsked Answers before asks mid → AreAsked Answers mid more after → AreAsked Answers before (asks ++ more) after
asks_join {S} Answers before mid _ asks _ first NoneAsked = let P : List BodyAsk → Type 0 = λ l. AreAsked Answers before l mid in subst P (sym (append-nil asks)) first
asks_join {S} Answers before mid after asks _ first (OneMore {asks = more} {mid = last} ask rest answers) =
    let P : List BodyAsk → Type 0 = λ l. AreAsked Answers before l after in
    subst P (append_assoc asks more (ask ∷ [])) (OneMore ask (asks_join Answers before mid last asks more first rest) answers)

module _ {S : Type 0} (Answers : S → MessagePlace → Option (List ℕ) → S → Type 0) (Lacks : S → MessagePlace → S → Type 0) where
  -- out of memory before any was asked
  pub vain_at_once : (AreAll : List BodyAsk → Type 0) (s : S) → AsksInVain Answers Lacks AreAll s s
  vain_at_once AreAll s = record { tried = []; are_tried = AllAnswered NoneAsked; due = none_due AreAll }

  -- while one was asked
  pub vain_while : (AreAll : List BodyAsk → Type 0) (before after : S) (message : MessagePlace) → Lacks before message after → AreAll (unanswered message ∷ [])
      → AsksInVain Answers Lacks AreAll before after
  vain_while AreAll before after message lacks all = record {
    tried = unanswered message ∷ [];
    are_tried = LastLacks message NoneAsked lacks refl;
    due = one_due AreAll (unanswered message) all;
  }

  -- after these were answered
  pub vain_after : (AreAll : List BodyAsk → Type 0) (before after : S) (asks : List BodyAsk) → AreAsked Answers before asks after → AreDue AreAll asks
      → AsksInVain Answers Lacks AreAll before after
  vain_after AreAll before after asks asked due = record { tried = asks; are_tried = AllAnswered asked; due = due }

  tried_then : (before mid after : S) (asks tried : List BodyAsk) → AreAsked Answers before asks mid → AreTried Answers Lacks mid tried after
      → AreTried Answers Lacks before (asks ++ tried) after
  tried_then before mid after asks tried first (AllAnswered more) = AllAnswered (asks_join Answers before mid after asks tried first more)
  tried_then before mid after asks tried first (LastLacks {asks = more} {mid = last} message rest lacks is) =
      LastLacks message (asks_join Answers before mid last asks more first rest) lacks
      (ap (λ (l : List BodyAsk). asks ++ l) is ∙ sym (append_assoc asks more (unanswered message ∷ [])))

  -- after these were answered, and then others tried
  pub vain_then : (P Q : List BodyAsk → Type 0) (before mid after : S) (asks : List BodyAsk) → AreAsked Answers before asks mid → AreDue Q asks
      → ((more : List BodyAsk) → P more → Q (asks ++ more)) → AsksInVain Answers Lacks P mid after → AsksInVain Answers Lacks Q before after
  vain_then P Q before mid after asks first due lift vain = record {
    tried = asks ++ vain.tried;
    are_tried = tried_then before mid after asks vain.tried first vain.are_tried;
    due = due_after P Q asks vain.tried due lift vain.due;
  }

  -- what is due may be more
  pub vain_more : (P Q : List BodyAsk → Type 0) (before after : S) → ((asks : List BodyAsk) → P asks → Q asks) → AsksInVain Answers Lacks P before after
      → AsksInVain Answers Lacks Q before after
  vain_more P Q before after so vain = record { tried = vain.tried; are_tried = vain.are_tried; due = due_more P Q vain.tried so vain.due }
