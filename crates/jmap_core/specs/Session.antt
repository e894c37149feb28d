-- The Session and its state (RFC 8620 section 2, RFC 8621 section 1.3).
use Rattle.std.specs.Prelude.{ℕ, List, [], ◌∷◌, ◌++◌, length, codes, decimal, map, true, false}
use Rattle.serde_json.specs.Data.{unsigned, Data, null, boolean, number, string, array, object, no_items, no_members, member}
use Rattle.serde_json.specs.View.{items_of}
use Rattle.jmap_arguments.specs.Arguments.{account_id}
use Rattle.jmap_arguments.specs.declared.arguments.TheConstants.{MAX_OBJECTS_IN_GET}
use Rattle.jmap_core.specs.declared.request_body.TheConstants.{MAX_CALLS_IN_REQUEST}
use Rattle.jmap_core.specs.declared.session.TheConstants.{MAX_SIZE_REQUEST, MAX_SIZE_UPLOAD, MAX_CONCURRENT_REQUESTS, MAX_CONCURRENT_UPLOAD, MAX_OBJECTS_IN_SET}
use Rattle.jmap_core.specs.declared.session.TheConstants.{MAX_SIZE_ATTACHMENTS_PER_EMAIL, MAX_SIZE_MAILBOX_NAME}

-- The user's length makes it clear where the user ends, so that no two pairs have one text.
abbrev pub session_state_text : List ℕ → List ℕ → List ℕ
session_state_text user base = codes "1;" ++ decimal (length user) ++ 59 ∷ user ++ 59 ∷ base

abbrev pub count : ℕ → Data
count n = number (unsigned n)

-- the limits of requests
abbrev pub core_limits : Data
core_limits = object
    (member (codes "collationAlgorithms") (array no_items)
    (member (codes "maxCallsInRequest") (count MAX_CALLS_IN_REQUEST)
    (member (codes "maxConcurrentRequests") (count MAX_CONCURRENT_REQUESTS)
    (member (codes "maxConcurrentUpload") (count MAX_CONCURRENT_UPLOAD)
    (member (codes "maxObjectsInGet") (count MAX_OBJECTS_IN_GET)
    (member (codes "maxObjectsInSet") (count MAX_OBJECTS_IN_SET)
    (member (codes "maxSizeRequest") (count MAX_SIZE_REQUEST)
    (member (codes "maxSizeUpload") (count MAX_SIZE_UPLOAD)
    no_members))))))))

abbrev pub email_orders : List (List ℕ)
email_orders = codes "receivedAt" ∷ codes "size" ∷ codes "from" ∷ codes "to" ∷ codes "subject" ∷ codes "sentAt" ∷ codes "hasKeyword"
    ∷ codes "allInThreadHaveKeyword" ∷ codes "someInThreadHaveKeyword" ∷ []

-- what mail can do in the account
abbrev pub mail_limits : Data
mail_limits = object
    (member (codes "emailQuerySortOptions") (array (items_of (map string email_orders)))
    (member (codes "maxMailboxDepth") null
    (member (codes "maxMailboxesPerEmail") (count 1)
    (member (codes "maxSizeAttachmentsPerEmail") (count MAX_SIZE_ATTACHMENTS_PER_EMAIL)
    (member (codes "maxSizeMailboxName") (count MAX_SIZE_MAILBOX_NAME)
    (member (codes "mayCreateTopLevelMailbox") (boolean true)
    no_members))))))

-- the one account
abbrev pub account_data : List ℕ → Data
account_data user = object
    (member (codes "accountCapabilities") (object (member (codes "urn:ietf:params:jmap:mail") mail_limits no_members))
    (member (codes "isPersonal") (boolean true)
    (member (codes "isReadOnly") (boolean false)
    (member (codes "name") (string user)
    no_members))))

abbrev pub accounts_data : List ℕ → Data
accounts_data user = object (member account_id (account_data user) no_members)

abbrev pub capabilities_data : Data
capabilities_data = object
    (member (codes "urn:ietf:params:jmap:core") core_limits
    (member (codes "urn:ietf:params:jmap:mail") (object no_members)
    no_members))

abbrev pub primary_accounts_data : Data
primary_accounts_data = object (member (codes "urn:ietf:params:jmap:mail") (string account_id) no_members)

-- the paths under the base URL
abbrev pub api_path : List ℕ
api_path = codes "/jmap/api"

abbrev pub download_path : List ℕ
download_path = codes "/jmap/download/{accountId}/{blobId}/{name}?accept={type}"

abbrev pub events_path : List ℕ
events_path = codes "/jmap/eventsource?types={types}&closeafter={closeafter}&ping={ping}"

abbrev pub upload_path : List ℕ
upload_path = codes "/jmap/upload/{accountId}"

-- the Session of this user under this base URL
abbrev pub session_data : List ℕ → List ℕ → Data
session_data user base = object
    (member (codes "accounts") (accounts_data user)
    (member (codes "apiUrl") (string (base ++ api_path))
    (member (codes "capabilities") capabilities_data
    (member (codes "downloadUrl") (string (base ++ download_path))
    (member (codes "eventSourceUrl") (string (base ++ events_path))
    (member (codes "primaryAccounts") primary_accounts_data
    (member (codes "state") (string (session_state_text user base))
    (member (codes "uploadUrl") (string (base ++ upload_path))
    (member (codes "username") (string user)
    no_members)))))))))
