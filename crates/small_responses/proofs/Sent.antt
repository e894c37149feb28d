-- Each response by which the small store tells its mail may be sent.
use Rattle.std.proofs.Common.{◌≡◌, ◌⊎◌, inl, inr, ℕ, ◌+◌, ◌-◌, ◌^◌, ◌<◌, ◌≤◌, ◌==◌, ◌&&◌, nat_lt, Bool, true, false, List, [], ◌∷◌, ◌++◌, Option, Some, None, IfSome}
use Rattle.std.proofs.Common.{length, take, codes, decimal, refl, sym, subst, arith, length-append, if◌then◌else◌}
use Rattle.std.specs.List.{AllByRecursion}
use Rattle.std.proofs.lemmas.List.{length-take}
use Rattle.std.proofs.lemmas.List.Elements.{All-from_recursion, All-take, recursion_from_All}
use Rattle.std.proofs.lemmas.List.Sums.{count_by-le-length}
use Rattle.text_words.specs.LineEnds.{line_end_len}
use Rattle.imap_types.specs.declared.code.Code.{Code}
use Rattle.imap_types.specs.declared.code.Code.TheVariants as code
use Rattle.imap_types.specs.declared.response.FetchItems.{FetchItems}
use Rattle.imap_types.specs.declared.response.Response.TheVariants as response
use Rattle.imap_types.specs.declared.response.Status.{Status}
use Rattle.imap_types.specs.declared.response.Status.TheVariants as status
use Rattle.imap_types.specs.declared.uid_set.UidRange.{UidRange}
use Rattle.imap_types.specs.Items.{AllNames, body_limit, header_limit, no_items}
use Rattle.imap_types.specs.Lines.{joined}
use Rattle.imap_types.specs.Strings.{escaped, quoted}
use Rattle.imap_types.specs.Texts.{crlf}
use Rattle.imap_types.proofs.KeptLemmas.{kept_again}
use Rattle.honest_store.specs.StoreMail.{StoreMessage, StoreFolder}
use Rattle.honest_store.specs.WellFormed.{AscendByUid, IsModseq, IsUpTo, IsStoreFolder, IsStoreMessage, nearest_date}
use Rattle.honest_store.specs.Headers.{begins_with_empty_line, empty_line, header_section, header_told, through_empty_line}
use Rattle.store_responses.specs.ResponseTexts.{code_text, delimiter_text, item_texts, names_text, ranges_text, status_text, text_of_response}
use Rattle.store_responses.specs.Sendable.{AreSendableItems, AreSendableNames, IsNonZeroNumber, IsSendable, IsSendableCode, IsSendableLiteral, IsSendableSet}
use Rattle.store_responses.specs.Sendable.{IsSendableRange, IsSendableTag}
use Rattle.small_answers.specs.Limits.{text_limit, total_length}
use Rattle.small_answers.specs.SmallMail.{IsSmallFolder}
use Rattle.small_answers.specs.ToldResponses.{body_response, change_response, flags_response, folder_responses, header_response, list_response, ok_response, sequence_number}
use Rattle.small_answers.specs.ToldResponses.{set_of, system_flags}
use Rattle.small_answers.proofs.Elements.{each_both}
use Rattle.small_answers.proofs.Truths.{above}
use Rattle.small_responses.specs.SendableMail.{AreOctets, IsSendableFolder, IsSendableMessage}
use Rattle.small_responses.proofs.FlagNames.{kept_are_names}
use Rattle.small_responses.proofs.SeenFlag.{few_with_seen}
use Rattle.small_responses.proofs.Lengths.{AreFew, escaped_length, items_bound, joined_length, number_length}

-- ---- messages

-- a message that can be told
pub record IsTellable (m : StoreMessage) : Type 0 where
  pub uid : IsNonZeroNumber m.uid
  pub flags : AreSendableNames m.flags
  pub few : total_length m.flags ≤ text_limit + 5
  pub modseq : m.modseq < 2 ^ 63
  pub date : nearest_date m.date ≡ m.date
  pub size : m.size < 2 ^ 63
  pub octets : AreOctets m.octets

up_to : (f : StoreFolder) (k : ℕ) → f.has_modseqs ≡ true → IsModseq f k → k ≤ f.highest
up_to f k has is = let h : IsUpTo true f.highest k = subst (λ (b : Bool). IsUpTo b f.highest k) has is in h.1

module _ (f : StoreFolder) (is : IsStoreFolder f) (small : IsSmallFolder f) (told : IsSendableFolder f) where
  pub each_tellable : AllByRecursion IsTellable f.messages
  each_tellable =
      each_both (IsStoreMessage f) (λ m. IsSendableMessage m × (0 < m.uid)) IsTellable
      (λ m m_is more. let below : m.uid < f.uid_next = m_is.uid in let next : f.uid_next < 2 ^ 32 = small.uid_next in let some : 0 < m.uid = more.1 in
      let highest : m.modseq ≤ f.highest = up_to f m.modseq small.modseqs m_is.modseq in let fits : f.highest < 2 ^ 63 = is.highest_fits in
      record {
        uid = (omega (arith, some), omega (arith, below, next));
        flags = record { names = more.0.flags; as_kept = m_is.flags };
        few = few_with_seen m.flags m_is.flags more.0.few;
        modseq = omega (arith, highest, fits);
        date = m_is.date;
        size = m_is.size;
        octets = more.0.octets;
      }) f.messages (recursion_from_All (IsStoreMessage f) f.messages is.messages)
      (each_both IsSendableMessage (λ m. 0 < m.uid) (λ m. IsSendableMessage m × (0 < m.uid)) (λ m m_told some. (m_told, some)) f.messages
      (recursion_from_All IsSendableMessage f.messages told.messages) (above 0 0 f.messages (omega arith) is.ascend))

-- as many messages as there are UIDs for
ascend_length : (u n : ℕ) (ms : List StoreMessage) → AscendByUid u ms → AllByRecursion (λ m. m.uid < n) ms → u < n → u + length ms < n
ascend_length u n [] h below l = omega (arith, l)
ascend_length u n (m ∷ ms) h below l = omega (arith, h.0, ascend_length m.uid n ms h.1 below.1 below.0)

pub few_messages : (f : StoreFolder) → IsStoreFolder f → IsSmallFolder f → length f.messages < 2 ^ 32 - 1
few_messages f is small =
    let next : f.uid_next < 2 ^ 32 = small.uid_next in let some : 1 ≤ f.uid_next = is.uid_next.0 in
    omega (
      arith,
      next,
      ascend_length 0 f.uid_next f.messages is.ascend
          (each_both (IsStoreMessage f) (IsStoreMessage f) (λ m. m.uid < f.uid_next) (λ m m_is again. m_is.uid) f.messages
          (recursion_from_All (IsStoreMessage f) f.messages is.messages)
          (recursion_from_All (IsStoreMessage f) f.messages is.messages)) some,
    )

-- ---- headers and octets

through_octets : (t : List ℕ) → AllByRecursion (λ c. c < 256) t → AllByRecursion (λ c. c < 256) (through_empty_line t)
through_octets [] all = tt
through_octets (c ∷ t) all = by ((c == 10) && begins_with_empty_line t) (through_octets t all.1)
  where
    by : (b : Bool) → AllByRecursion (λ d. d < 256) (through_empty_line t) → AllByRecursion (λ d. d < 256) (if b then c ∷ empty_line t else c ∷ through_empty_line t)
    by true rest = (all.0, recursion_from_All (λ d. d < 256) (empty_line t) (All-take (λ d. d < 256) (line_end_len t) t (All-from_recursion (λ d. d < 256) t all.1)))
    by false rest = (all.0, rest)

section_octets : (t : List ℕ) → AreOctets t → AreOctets (header_section t)
section_octets t all = by (begins_with_empty_line t)
  where
    by : (b : Bool) → AreOctets (if b then empty_line t else through_empty_line t)
    by true = All-take (λ c. c < 256) (line_end_len t) t all
    by false = All-from_recursion (λ c. c < 256) (through_empty_line t) (through_octets t (recursion_from_All (λ c. c < 256) t all))

literal_of : (most : ℕ) (t : List ℕ) → AreOctets t → IsSendableLiteral most (take most t)
literal_of most t all = record { few = omega (arith, length-take most t); octets = All-take (λ c. c < 256) most t all }

-- ---- FETCH

abbrev IsConsed : List (List ℕ) → Type 0
IsConsed [] = ⊥
IsConsed (t ∷ ts) = Unit {0}

module _ (ms : List StoreMessage) (m : StoreMessage) (room : length ms < 2 ^ 32 - 1) where
  fetch_sent : (items : FetchItems) → AreSendableItems items → AreFew items → IsSendable (response.Fetch (sequence_number ms m) items)
  fetch_sent items is few =
      let seq : ℕ = sequence_number ms m in
      let place : seq < 2 ^ 32 = omega (arith, count_by-le-length (λ (other : StoreMessage). nat_lt other.uid m.uid) ms, room) in
      record {
        values = (place, is);
        within = omega (
          arith,
          length-append (decimal (sequence_number ms m)) (codes " FETCH (" ++ joined (item_texts items) ++ 41 ∷ crlf),
          length-append (joined (item_texts items)) (41 ∷ crlf),
          joined_length (item_texts items),
          items_bound items few,
          number_length (sequence_number ms m) (omega (arith, place)),
        );
      }

  long : IsNonZeroNumber m.uid → m.uid < 2 ^ 63
  long is = omega (arith, is.1)

  pub flags_sent : IsTellable m → IsSendable (flags_response ms m)
  flags_sent is =
      fetch_sent (record no_items { uid = Some m.uid; flags = Some m.flags })
      (record { some = λ e. subst IsConsed e tt; uid = is.uid; flags = is.flags; modseq = tt; date = tt; size = tt; header = tt; body = tt })
      (record { uid = long is.uid; flags = (is.flags.names, is.few); modseq = tt; size = tt; header = tt; body = tt })

  pub change_sent : IsTellable m → IsSendable (change_response ms m)
  change_sent is =
      fetch_sent (record no_items { uid = Some m.uid; flags = Some m.flags; modseq = Some m.modseq })
      (record { some = λ e. subst IsConsed e tt; uid = is.uid; flags = is.flags; modseq = is.modseq; date = tt; size = tt; header = tt; body = tt })
      (record { uid = long is.uid; flags = (is.flags.names, is.few); modseq = is.modseq; size = tt; header = tt; body = tt })

  modseq_if : (b : Bool) → m.modseq < 2 ^ 63 → IfSome (if b then Some m.modseq else None) (λ n. n < 2 ^ 63)
  modseq_if true fits = fits
  modseq_if false fits = tt

  pub header_sent : (b : Bool) → IsTellable m → IsSendable (header_response b ms m)
  header_sent b is =
      let header : IsSendableLiteral header_limit (header_told m.octets) = literal_of header_limit (header_section m.octets) (section_octets m.octets is.octets) in
      let few : length (header_told m.octets) ≤ header_limit = header.few in
      fetch_sent (record {
        uid = Some m.uid;
        flags = Some m.flags;
        modseq = if b then Some m.modseq else None;
        date = Some m.date;
        size = Some m.size;
        header = Some (header_told m.octets);
        body = None;
      }) (record { some = λ e. subst IsConsed e tt; uid = is.uid; flags = is.flags; modseq = modseq_if b is.modseq; date = is.date; size = is.size; header = header; body = tt })
      (record { uid = long is.uid; flags = (is.flags.names, is.few); modseq = modseq_if b is.modseq; size = is.size; header = omega (arith, few); body = tt })

  pub body_sent : IsTellable m → IsSendable (body_response ms m)
  body_sent is =
      let body : IsSendableLiteral body_limit (take body_limit m.octets) = literal_of body_limit m.octets is.octets in
      fetch_sent (record no_items { uid = Some m.uid; body = Some (take body_limit m.octets) })
      (record { some = λ e. subst IsConsed e tt; uid = is.uid; flags = tt; modseq = tt; date = tt; size = tt; header = tt; body = body })
      (record { uid = long is.uid; flags = tt; modseq = tt; size = tt; header = tt; body = body.few })

-- ---- sets of one UID

abbrev HasRange : List UidRange → Type 0
HasRange [] = ⊥
HasRange (r ∷ rs) = Unit {0}

range_is : (u : ℕ) → IsNonZeroNumber u → IsSendableRange (record { first = u; last = u })
range_is u is = record { first = is.0; in_order = omega arith; last = is.1 }

set_is : (u : ℕ) → IsNonZeroNumber u → IsSendableSet (set_of u).ranges
set_is u is = record {
  some = λ e. subst HasRange e tt;
  ranges = All-from_recursion IsSendableRange (set_of u).ranges (range_is u is, tt);
}

set_length : (u : ℕ) → IsNonZeroNumber u → length (ranges_text (set_of u).ranges) ≤ 39
set_length u is =
    let fits : u < 2 ^ 32 = is.1 in
    omega (arith, length-append (decimal u ++ 58 ∷ decimal u) [], length-append (decimal u) (58 ∷ decimal u), number_length u (omega (arith, fits)))

vanished_length : (earlier : Bool) (u : ℕ) → IsNonZeroNumber u → length (text_of_response (response.Vanished earlier (set_of u))) ≤ 100
vanished_length true u is = omega (arith, length-append (ranges_text (set_of u).ranges) crlf, set_length u is)
vanished_length false u is = omega (arith, length-append (ranges_text (set_of u).ranges) crlf, set_length u is)

pub vanished_sent : (earlier : Bool) (u : ℕ) → IsNonZeroNumber u → IsSendable (response.Vanished earlier (set_of u))
vanished_sent earlier u is = record { values = set_is u is; within = omega (arith, vanished_length earlier u is) }

-- ---- codes

-- a code that is short
pub record IsShortCode (c : Code) : Type 0 where
  pub values : IsSendableCode c
  pub few : length (code_text c) ≤ 200

pub absent_short : IsShortCode code.Absent
absent_short = record { values = tt; few = omega arith }

pub other_short : IsShortCode code.Other
other_short = record { values = tt; few = omega arith }

pub closed_short : IsShortCode code.Closed
closed_short = record { values = tt; few = omega arith }

pub validity_short : (n : ℕ) → IsNonZeroNumber n → IsShortCode (code.UidValidity n)
validity_short n is = let fits : n < 2 ^ 32 = is.1 in record { values = is; few = omega (arith, length-append (decimal n) (93 ∷ []), number_length n (omega (arith, fits))) }

pub next_short : (n : ℕ) → IsNonZeroNumber n → IsShortCode (code.UidNext n)
next_short n is = let fits : n < 2 ^ 32 = is.1 in record { values = is; few = omega (arith, length-append (decimal n) (93 ∷ []), number_length n (omega (arith, fits))) }

pub highest_short : (n : ℕ) → n < 2 ^ 63 → IsShortCode (code.HighestModSeq n)
highest_short n fits = record { values = fits; few = omega (arith, length-append (decimal n) (93 ∷ []), number_length n fits) }

pub append_short : (v u : ℕ) → IsNonZeroNumber v → IsNonZeroNumber u → IsShortCode (code.AppendUid v u)
append_short v u v_is u_is =
    let v_fits : v < 2 ^ 32 = v_is.1 in let u_fits : u < 2 ^ 32 = u_is.1 in
    record {
      values = (v_is, u_is);
      few = omega (
        arith,
        length-append (decimal v ++ 32 ∷ decimal u) (93 ∷ []),
        length-append (decimal v) (32 ∷ decimal u),
        number_length v
            (omega (arith, v_fits)),
        number_length u (omega (arith, u_fits)),
      );
    }

pub copy_short : (v u w : ℕ) → IsNonZeroNumber v → IsNonZeroNumber u → IsNonZeroNumber w → IsShortCode (code.CopyUid v (set_of u) (set_of w))
copy_short v u w v_is u_is w_is =
    let v_fits : v < 2 ^ 32 = v_is.1 in let from : List ℕ = ranges_text (set_of u).ranges in let to : List ℕ = ranges_text (set_of w).ranges in
    record {
      values = (v_is, set_is u u_is, set_is w w_is);
      few = omega (
        arith,
        length-append (decimal v ++ (32 ∷ from ++ 32 ∷ to)) (93 ∷ []),
        length-append (decimal v) (32 ∷ from ++ 32 ∷ to),
        length-append from (32 ∷ to),
        number_length v (omega (arith, v_fits)),
        set_length u u_is,
        set_length w w_is,
      );
    }

pub coded_sent : (c : Code) → IsShortCode c → IsSendable (ok_response c)
coded_sent c is = record { values = is.values; within = omega (arith, length-append (code_text c) (codes " done" ++ crlf), is.few) }

status_length : (s : Status) (c : Code) → IsShortCode c → length (status_text s ++ (code_text c ++ (codes " done" ++ crlf))) ≤ 300
status_length status.Ok c is = omega (arith, length-append (code_text c) (codes " done" ++ crlf), is.few)
status_length status.No c is = omega (arith, length-append (code_text c) (codes " done" ++ crlf), is.few)
status_length status.Bad c is = omega (arith, length-append (code_text c) (codes " done" ++ crlf), is.few)
status_length status.Preauth c is = omega (arith, length-append (code_text c) (codes " done" ++ crlf), is.few)
status_length status.Bye c is = omega (arith, length-append (code_text c) (codes " done" ++ crlf), is.few)

pub ok_sent : (tag : List ℕ) (c : Code) → IsSendableTag tag → IsShortCode c → IsSendable (response.Tagged tag status.Ok c)
ok_sent tag c tag_is is =
    let few : length tag ≤ 32 = tag_is.few in
    record {
      values = (tag_is, tt, is.values);
      within = omega
          (arith, length-append tag (32 ∷ status_text status.Ok ++ (code_text c ++ (codes " done" ++ crlf))), status_length status.Ok c is, few);
    }

pub no_sent : (tag : List ℕ) → IsSendableTag tag → IsSendable (response.Tagged tag status.No code.Absent)
no_sent tag tag_is =
    let few : length tag ≤ 32 = tag_is.few in
    record { values = (tag_is, tt, tt); within = omega (arith, length-append tag (codes " NO done" ++ crlf), few) }

-- ---- folders

attributes_sent : (ns : List (List ℕ)) → (ns ≡ []) ⊎ (ns ≡ codes "\\subscribed" ∷ []) → AreSendableNames ns × (length (names_text ns) ≤ 20)
attributes_sent ns (inl none) = subst (λ (xs : List (List ℕ)). AreSendableNames xs × (length (names_text xs) ≤ 20)) (sym none)
    (record { names = tt; as_kept = refl }, omega arith)
attributes_sent ns (inr one) =
    subst (λ (xs : List (List ℕ)). AreSendableNames xs × (length (names_text xs) ≤ 20)) (sym one) (
      record {
        names = (inr (codes "subscribed", refl, ((refl, (refl, (refl, (refl, (refl, (refl, (refl, (refl, (refl, (refl, tt)))))))))), omega arith)), tt);
        as_kept = refl;
      },
      omega arith,
    )

list_length : (names d name : List ℕ) → length names ≤ 20 → length d ≤ 6 → length name ≤ 1000000
    → length (codes "* LIST " ++ names ++ (32 ∷ d ++ (32 ∷ quoted name ++ crlf))) ≤ 2000100
list_length names d name few short fits =
    omega (
      arith,
      length-append names (32 ∷ d ++ (32 ∷ quoted name ++ crlf)),
      length-append d (32 ∷ quoted name ++ crlf),
      length-append (escaped name ++ 34 ∷ []) crlf,
      length-append (escaped name) (34 ∷ []),
      escaped_length name,
      few,
      short,
      fits,
    )

pub list_sent : (f : StoreFolder) → IsStoreFolder f → IsSmallFolder f → IsSendableFolder f → IsSendable (list_response f)
list_sent f is small told =
    let attributes = attributes_sent f.attributes told.attributes in
    let short : length (delimiter_text f.delimiter) ≤ 6 = subst (λ (d : Option ℕ). length (delimiter_text d) ≤ 6) (sym small.delimiter) (omega arith) in
    record {
      values = (attributes.0, is.delimiter, is.name);
      within = omega (arith, list_length (names_text f.attributes) (delimiter_text f.delimiter) f.name attributes.1 short told.name);
    }

-- a name that is a backslash and letters
system_names : AllNames system_flags
system_names =
    kept_are_names (codes "\\seen" ∷ codes "\\answered" ∷ codes "\\flagged" ∷ codes "\\draft" ∷ codes "\\deleted" ∷ []) (
      inr (codes "seen", refl, ((refl, (refl, (refl, (refl, tt)))), omega arith)),
      (
        inr (codes "answered", refl, ((refl, (refl, (refl, (refl, (refl, (refl, (refl, (refl, tt)))))))), omega arith)),
        (
          inr (codes "flagged", refl, ((refl, (refl, (refl, (refl, (refl, (refl, (refl, tt))))))), omega arith)),
          (
            inr (codes "draft", refl, ((refl, (refl, (refl, (refl, (refl, tt))))), omega arith)),
            (inr (codes "deleted", refl, ((refl, (refl, (refl, (refl, (refl, (refl, (refl, tt))))))), omega arith)), tt),
          ),
        ),
      ),
    )

flags_line_sent : IsSendable (response.Flags system_flags)
flags_line_sent = record {
  values = record { names = system_names; as_kept = kept_again (codes "\\seen" ∷ codes "\\answered" ∷ codes "\\flagged" ∷ codes "\\draft" ∷ codes "\\deleted" ∷ []) };
  within = omega arith;
}

exists_sent : (n : ℕ) → n < 2 ^ 32 - 1 → IsSendable (response.Exists n)
exists_sent n fits = record { values = omega (arith, fits); within = omega (arith, length-append (decimal n) (codes " EXISTS" ++ crlf), number_length n (omega (arith, fits))) }

pub folder_sent : (f : StoreFolder) → IsStoreFolder f → IsSmallFolder f → IsSendableFolder f → AllByRecursion IsSendable (folder_responses f)
folder_sent f is small told = (
  flags_line_sent,
  (
    list_sent f is small told,
    (
      exists_sent (length f.messages) (few_messages f is small),
      (
        coded_sent (code.UidValidity f.validity) (validity_short f.validity is.validity),
        (
          coded_sent (code.UidNext f.uid_next) (next_short f.uid_next (is.uid_next.0, small.uid_next)),
          (coded_sent (code.HighestModSeq f.highest) (highest_short f.highest is.highest_fits), tt),
        ),
      ),
    ),
  ),
)
