-- Bodies that are asked of a source, one after another.
use Rattle.std.specs.Prelude.{◌≡◌, ◌++◌, ℕ, List, [], ◌∷◌, Option, None}
use Rattle.email_bodies.specs.declared.source.MessagePlace.{MessagePlace}

-- the message of an Email, and its octets as they were answered; none where they didn't come
pub record BodyAsk : Type 0 where
  pub message : MessagePlace
  pub body : Option (List ℕ)

-- one whose octets didn't come
abbrev pub unanswered : MessagePlace → BodyAsk
unanswered message = record { message = message; body = None }

-- These were asked in order, and answered so.
pub data AreAsked {S : Type 0} (Answers : S → MessagePlace → Option (List ℕ) → S → Type 0) (before : S) : List BodyAsk → S → Type 0 where
  NoneAsked : AreAsked Answers before [] before
  OneMore : {asks : List BodyAsk} {mid after : S} (ask : BodyAsk) → AreAsked Answers before asks mid → Answers mid ask.message ask.body after
      → AreAsked Answers before (asks ++ ask ∷ []) after

-- ---- out of memory

-- These were asked up to the moment at which memory ran out. Where that was while one of them was asked, it is the last one, and unanswered.
pub data AreTried {S : Type 0} (Answers : S → MessagePlace → Option (List ℕ) → S → Type 0) (Lacks : S → MessagePlace → S → Type 0) (before : S)
    (tried : List BodyAsk)
    (after : S) : Type 0 where
  AllAnswered : AreAsked Answers before tried after → AreTried Answers Lacks before tried after
  LastLacks : {asks : List BodyAsk} {mid : S} (message : MessagePlace) → AreAsked Answers before asks mid → Lacks mid message after
      → tried ≡ asks ++ unanswered message ∷ [] → AreTried Answers Lacks before tried after

-- Each of these was due: had the last one not come, they would have been all that are asked.
abbrev pub AreDue : (List BodyAsk → Type 0) → List BodyAsk → Type 0
AreDue AreAll tried = (asks : List BodyAsk) (last : BodyAsk) → tried ≡ asks ++ last ∷ [] → AreAll (asks ++ unanswered last.message ∷ [])

-- Memory ran out after bodies were tried that were due.
pub record AsksInVain {S : Type 0} (Answers : S → MessagePlace → Option (List ℕ) → S → Type 0) (Lacks : S → MessagePlace → S → Type 0)
    (AreAll : List BodyAsk → Type 0) (before after : S) : Type 0 where
  pub tried : List BodyAsk
  pub are_tried : AreTried Answers Lacks before tried after
  pub due : AreDue AreAll tried
