-- The texts of responses as a store writes them: one spelling of each (RFC 9051 sections 7 and 9, RFC 7162 section 3.2).
use Rattle.std.specs.Prelude.{ℕ, ℤ, Bool, List, [], ◌∷◌, ◌++◌, codes, Option, Some, None, if◌then◌else◌}
use Rattle.std.specs.Fmt.{decimal}
use Rattle.imap_types.specs.declared.code.Code.{Code}
use Rattle.imap_types.specs.declared.code.Code.TheVariants as code
use Rattle.imap_types.specs.declared.response.Response.{Response}
use Rattle.imap_types.specs.declared.response.Response.TheVariants as response
use Rattle.imap_types.specs.declared.response.FetchItems.{FetchItems}
use Rattle.imap_types.specs.declared.response.StatusItems.{StatusItems}
use Rattle.imap_types.specs.declared.response.Status.{Status}
use Rattle.imap_types.specs.declared.response.Status.TheVariants as status
use Rattle.imap_types.specs.declared.uid_set.UidRange.{UidRange}
use Rattle.imap_types.specs.Texts.{crlf}
use Rattle.imap_types.specs.Lines.{spaced, joined}
use Rattle.imap_types.specs.Strings.{quoted}
use Rattle.imap_types.specs.Dates.{date_text}
use Rattle.imap_types.specs.Commands.{literal_head}

-- ---- sets of UIDs

-- both ends, also where they are one UID
abbrev pub range_text : UidRange → List ℕ
range_text r = decimal r.first ++ 58 ∷ decimal r.last

-- a comma before each
abbrev pub more_ranges_text : List UidRange → List ℕ
more_ranges_text [] = []
more_ranges_text (r ∷ rs) = 44 ∷ range_text r ++ more_ranges_text rs

abbrev pub ranges_text : List UidRange → List ℕ
ranges_text [] = []
ranges_text (r ∷ rs) = range_text r ++ more_ranges_text rs

-- ---- status lines

abbrev pub status_text : Status → List ℕ
status_text status.Ok = codes "OK"
status_text status.No = codes "NO"
status_text status.Bad = codes "BAD"
status_text status.Preauth = codes "PREAUTH"
status_text status.Bye = codes "BYE"

-- what stands between the brackets
abbrev pub code_words : Code → List ℕ
code_words code.Absent = []
code_words (code.UidValidity n) = codes "UIDVALIDITY " ++ decimal n
code_words (code.UidNext n) = codes "UIDNEXT " ++ decimal n
code_words (code.HighestModSeq n) = codes "HIGHESTMODSEQ " ++ decimal n
code_words code.NoModSeq = codes "NOMODSEQ"
code_words code.Closed = codes "CLOSED"
code_words (code.AppendUid validity uid) = codes "APPENDUID " ++ decimal validity ++ 32 ∷ decimal uid
code_words (code.CopyUid validity from to) = codes "COPYUID " ++ decimal validity ++ (32 ∷ ranges_text from.ranges ++ 32 ∷ ranges_text to.ranges)
code_words code.OverQuota = codes "OVERQUOTA"
code_words code.Other = codes "READ-WRITE"

-- a space and the code in brackets, where there is one
abbrev pub code_text : Code → List ℕ
code_text code.Absent = []
code_text c = codes " [" ++ code_words c ++ 93 ∷ []

-- what follows a tag and a space, or `* `
abbrev pub status_line_text : Status → Code → List ℕ
status_line_text s c = status_text s ++ (code_text c ++ (codes " done" ++ crlf))

-- ---- items

abbrev pub names_text : List (List ℕ) → List ℕ
names_text ns = 40 ∷ joined ns ++ 41 ∷ []

-- the octets, counted
abbrev pub literal_text : List ℕ → List ℕ
literal_text s = literal_head s ++ s

-- a word, a space and a number
abbrev pub count_text : List ℕ → Option ℕ → List (List ℕ)
count_text word None = []
count_text word (Some n) = (word ++ 32 ∷ decimal n) ∷ []

abbrev pub flags_text : Option (List (List ℕ)) → List (List ℕ)
flags_text None = []
flags_text (Some flags) = (codes "FLAGS " ++ names_text flags) ∷ []

abbrev pub modseq_text : Option ℕ → List (List ℕ)
modseq_text None = []
modseq_text (Some n) = (codes "MODSEQ (" ++ decimal n ++ 41 ∷ []) ∷ []

abbrev pub internal_date_text : Option ℤ → List (List ℕ)
internal_date_text None = []
internal_date_text (Some date) = (codes "INTERNALDATE " ++ date_text date) ∷ []

-- a word, a space and a literal
abbrev pub octets_text : List ℕ → Option (List ℕ) → List (List ℕ)
octets_text word None = []
octets_text word (Some s) = (word ++ 32 ∷ literal_text s) ∷ []

-- the items that are told, in this order
abbrev pub item_texts : FetchItems → List (List ℕ)
item_texts items =
    count_text (codes "UID") items.uid ++ (flags_text items.flags ++ (modseq_text items.modseq ++ (internal_date_text items.date
    ++ (count_text (codes "RFC822.SIZE") items.size ++ (octets_text (codes "BODY[HEADER]<0>") items.header ++ octets_text (codes "BODY[]<0>") items.body)))))

-- the counts that are told, in this order
abbrev pub count_texts : StatusItems → List (List ℕ)
count_texts items =
    count_text (codes "MESSAGES") items.messages ++ (count_text (codes "UIDNEXT") items.uid_next
    ++ (count_text (codes "UIDVALIDITY") items.uid_validity ++ count_text (codes "HIGHESTMODSEQ") items.modseq))

-- ---- responses

abbrev pub delimiter_text : Option ℕ → List ℕ
delimiter_text None = codes "NIL"
delimiter_text (Some d) = quoted (d ∷ [])

abbrev pub earlier_text : Bool → List ℕ
earlier_text earlier = if earlier then codes "(EARLIER) " else []

abbrev pub text_of_response : Response → List ℕ
text_of_response (response.Tagged tag s c) = tag ++ 32 ∷ status_line_text s c
text_of_response (response.Untagged s c) = codes "* " ++ status_line_text s c
text_of_response response.Continue = codes "+ go" ++ crlf
text_of_response (response.Capability words) = codes "* CAPABILITY" ++ spaced words ++ crlf
text_of_response (response.Enabled words) = codes "* ENABLED" ++ spaced words ++ crlf
text_of_response (response.List attributes delimiter name) =
    codes "* LIST " ++ names_text attributes ++ (32 ∷ delimiter_text delimiter ++ (32 ∷ quoted name ++ crlf))
text_of_response (response.StatusItems name items) = codes "* STATUS " ++ quoted name ++ (codes " (" ++ joined (count_texts items) ++ 41 ∷ crlf)
text_of_response (response.Flags flags) = codes "* FLAGS " ++ names_text flags ++ crlf
text_of_response (response.Exists n) = codes "* " ++ decimal n ++ (codes " EXISTS" ++ crlf)
text_of_response (response.Expunge n) = codes "* " ++ decimal n ++ (codes " EXPUNGE" ++ crlf)
text_of_response (response.Fetch seq items) = codes "* " ++ decimal seq ++ (codes " FETCH (" ++ joined (item_texts items) ++ 41 ∷ crlf)
text_of_response (response.Vanished earlier uids) = codes "* VANISHED " ++ earlier_text earlier ++ (ranges_text uids.ranges ++ crlf)
text_of_response response.Other = codes "* NOTHING" ++ crlf
