-- What is asked of a sparse folder.
use Rattle.std.proofs.Common.{◌≡◌, ◌≤◌, ◌<◌, ◌+◌, ℕ, Bool, true, List, length, if◌then◌else◌, refl, ap, arith}
use Rattle.std.proofs.lemmas.Bool.{ltb-true}
use Rattle.told_folder.specs.declared.exchange.Exchange.{Exchange}
use Rattle.told_mail.specs.Mail.{Mail}
use Rattle.imap_client.specs.declared.round.TheConstants.{SLICE_UIDS}
use Rattle.imap_client.specs.Rounds.{is_sparse, sliced_to, uid_next_told}
use Rattle.imap_client.specs.WholeRounds.{FetchesHeaders, Slice, Rest, FetchesFolder, WithModseqs, WithoutModseqs, AsksFolder, Asked, select_told}

-- no slice is short of UID 0
headers_at_once : {at uid_next : ℕ} {before after : Mail} {xs : List Exchange} → uid_next ≡ 0 → FetchesHeaders at uid_next before xs after → length xs ≡ 1
headers_at_once {uid_next = uid_next} none (Slice slice is more) =
    let short : slice.place.held.folder.next + SLICE_UIDS < uid_next = ltb-true (slice.place.held.folder.next + SLICE_UIDS) uid_next is in omega (arith, none, short)
headers_at_once none (Rest rest is) = refl

folder_at_once : {at uid_next : ℕ} {before after : Mail} {xs : List Exchange} → uid_next ≡ 0 → FetchesFolder at uid_next before xs after → length xs ≤ 2
folder_at_once none (WithModseqs place is headers) = omega (arith, headers_at_once none headers)
folder_at_once none (WithoutModseqs flags is headers) = omega (arith, headers_at_once none headers)

-- a sparse folder is asked for by three commands at most
pub sparse_folders_take_three : (at : ℕ) (before after : Mail) (xs : List Exchange) (asks : AsksFolder at before xs after) → is_sparse (select_told asks) ≡ true → length xs ≤ 3
sparse_folders_take_three at before after xs (Asked select valid fetches) sparse =
    let told = select.exchange.responses in
    let is : is_sparse told ≡ true = sparse in
    let none : sliced_to told ≡ 0 = ap (λ (b : Bool). if b then 0 else uid_next_told told) is in omega (arith, folder_at_once none fetches)
