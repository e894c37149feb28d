-- Messages that are found by their UIDs, and what is told of them truly.
use Rattle.std.proofs.Common.{◌≡◌, ℕ, ◌<◌, ◌≤◌, Bool, cond, List, [], ◌∷◌, Option, Some, None, refl, sym, subst, arith, eq-eqb, ne_eqb, ◌==◌}
use Rattle.std.specs.List.{AllByRecursion}
use Rattle.std.proofs.lemmas.List.Elements.{recursion_from_All}
use Rattle.imap_types.specs.declared.response.Response.{Response}
use Rattle.honest_store.specs.StoreMail.{StoreMessage, StoreFolder, StoreMail, folder_numbered, message_numbered}
use Rattle.honest_store.specs.WellFormed.{AscendByUid, IsStoreFolder, IsStoreMail}
use Rattle.honest_store.specs.Others.{NoStep}
use Rattle.honest_store.specs.Responses.{MayCome}
use Rattle.honest_store.specs.TrueResponses.{messages_of_folder, seen_folder, IsTrueOf, TellsTruly, NoMore, Tells}
use Rattle.small_answers.proofs.Elements.{each_both}
use Rattle.small_answers.proofs.Searches.{found_is}

-- ---- messages by UID

pub above : (u v : ℕ) (ms : List StoreMessage) → u ≤ v → AscendByUid v ms → AllByRecursion (λ m. u < m.uid) ms
above u v [] l h = tt
above u v (m ∷ ms) l h = (omega (arith, l, h.0), above u m.uid ms (omega (arith, l, h.0)) h.1)

found_behind : (m : StoreMessage) (ms : List StoreMessage) (n : StoreMessage) → m.uid < n.uid → message_numbered ms n.uid ≡ Some n → message_numbered (m ∷ ms) n.uid ≡ Some n
found_behind m ms n l e =
    subst (λ (b : Bool). cond b (Some m) (message_numbered ms n.uid) ≡ Some n) (sym (ne_eqb m.uid n.uid (λ same. omega (arith, l, same)))) e

-- each message is the one of its UID
pub each_found : (u : ℕ) (ms : List StoreMessage) → AscendByUid u ms → AllByRecursion (λ m. message_numbered ms m.uid ≡ Some m) ms
each_found u [] h = tt
each_found u (m ∷ ms) h = (
  subst (λ (b : Bool). cond b (Some m) (message_numbered ms m.uid) ≡ Some m) (sym (eq-eqb m.uid m.uid refl)) refl,
  each_both (λ n. m.uid < n.uid) (λ n. message_numbered ms n.uid ≡ Some n) (λ n. message_numbered (m ∷ ms) n.uid ≡ Some n) (λ n l e. found_behind m ms n l e) ms
      (above m.uid m.uid ms (omega arith) h.1) (each_found m.uid ms h.1),
)

ascend_of : (o : Option StoreFolder) → ((f : StoreFolder) → o ≡ Some f → IsStoreFolder f) → AscendByUid 0 (messages_of_folder o)
ascend_of None is = tt
ascend_of (Some f) is = (is f refl).ascend

-- the messages that are seen ascend
pub seen_ascend : (mail : StoreMail) (n : ℕ) → IsStoreMail mail → AscendByUid 0 (messages_of_folder (folder_numbered mail.folders n))
seen_ascend mail n whole =
    ascend_of (folder_numbered mail.folders n)
    (λ f e. found_is IsStoreFolder (λ f. f.number == n) mail.folders f (recursion_from_All IsStoreFolder mail.folders whole.folders) e)

-- ---- truth

-- a response that may come, and is true
abbrev pub IsTrueThere : Option (Option StoreFolder) → Response → Type 0
IsTrueThere seen r = MayCome r × IsTrueOf seen r

pub tells_all : (selected : Option ℕ) (mail : StoreMail) (rs : List Response) → AllByRecursion (λ r. MayCome r × IsTrueOf (seen_folder selected mail) r) rs
    → TellsTruly NoStep selected mail rs mail
tells_all selected mail [] h = NoMore
tells_all selected mail (r ∷ rs) h = Tells r h.0.0 h.0.1 (tells_all selected mail rs h.1)
