-- What is told of octets that can't be read.
use Rattle.std.specs.Prelude.{ℕ, Bool, true, false, ◌==◌, ◌||◌, ◌&&◌, nat_eq, List, codes, drop, length, not, take, if◌then◌else◌, Option, Some, None}
use Rattle.std.specs.List.{list_any, range_with_len, starts_with, take_while}
use Rattle.store_causes.specs.declared.beginning.TheConstants.{MAX_BEGINNING_OCTETS}
use Rattle.store_causes.specs.declared.cause.Asked.{Asked}
use Rattle.store_causes.specs.declared.cause.Asked.TheVariants as asked
use Rattle.store_causes.specs.declared.cause.Breach.TheVariants as breach
use Rattle.store_causes.specs.declared.cause.StoreCause.{StoreCause}
use Rattle.store_causes.specs.declared.cause.StoreCause.TheVariants as cause

-- No end of a line (CR, LF), no quotation mark, and no brace of a literal: what stands in a quoted string or in a literal may be mail
-- (RFC 9051 sections 4.3 and 7.5.2).
abbrev pub is_told : ℕ → Bool
is_told octet = not (octet == 13 || octet == 10 || octet == 34 || octet == 123)

-- the first of these octets, up to one that isn't told
abbrev pub beginning_of : List ℕ → List ℕ
beginning_of octets = take_while is_told (take MAX_BEGINNING_OCTETS octets)

-- as an untagged response or a request to go on begins (RFC 9051 section 2.2.2)
abbrev pub begins_response : List ℕ → Bool
begins_response octets = starts_with nat_eq octets (codes "* ") || starts_with nat_eq octets (codes "+ ")

-- The word, which isn't empty, stands in the octets, from one of the first n of them on.
abbrev pub stands_in : List ℕ → ℕ → List ℕ → Bool
stands_in word n octets = not (length word == 0) && list_any (λ (at : ℕ). starts_with nat_eq (drop at octets) word) (range_with_len 0 n)

-- Whether anything may be told of these octets, which stay unread after this. Before a greeting nothing was sent; after LOGIN a store may
-- repeat the password; what else doesn't begin as a response may be what is left of a literal.
abbrev pub may_tell : Asked → List ℕ → Bool
may_tell asked.Greeting unread = true
may_tell asked.Login unread = false
may_tell _ unread = begins_response unread

-- How they begin, if that may be told: nothing where the password begins in it.
abbrev pub beginning_after : Asked → List ℕ → List ℕ → Option (List ℕ)
beginning_after asked password unread =
    if may_tell asked unread && not (stands_in password (length (beginning_of unread)) unread) then Some (beginning_of unread) else None

-- What is told by the cause, of what the store gave in the life to which this password was given: where no response begins at an offset,
-- the beginning of what stands there.
abbrev pub beginning_told : List ℕ → Option StoreCause → List ℕ → Option (List ℕ)
beginning_told password (Some (cause.Unanswered asked (breach.Unreadable at))) gave = beginning_after asked password (drop at gave)
beginning_told password _ gave = None
