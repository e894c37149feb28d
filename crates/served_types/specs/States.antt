-- The state of a type as it is named (RFC 8620 section 5.1).
use Rattle.std.specs.Prelude.{◌≡◌, ℕ, ◌≤◌, List, length}
use Rattle.change_list.specs.Kept.{front_of}
use Rattle.change_list.specs.declared.entries.Entry.{Entry}
use Rattle.jmap_arguments.specs.State.{state_text}
use Rattle.mail_state.specs.History.{MailHistory}
use Rattle.served_maps.specs.Past.{Past, place_now}

-- the state of a type: the epoch, and how often the type changed in it
abbrev pub type_state : {V : Type 0} → MailHistory → Past V → List ℕ
type_state h p = state_text (record { epoch = h.epoch; place = place_now p })

-- the place to which the touches lead
abbrev pub newest_place : List Entry → ℕ
newest_place h = length h

-- the text is that of a place whose later changes are all kept
pub record IsPlaceOf (epoch last : ℕ) (text : List ℕ) (place : ℕ) : Type 0 where
  pub text_is : text ≡ state_text (record { epoch = epoch; place = place })
  pub from_front : front_of last ≤ place
  pub to_last : place ≤ last

abbrev pub NamesNone : ℕ → ℕ → List ℕ → Type 0
NamesNone epoch last text = (place : ℕ) → IsPlaceOf epoch last text place → ⊥
