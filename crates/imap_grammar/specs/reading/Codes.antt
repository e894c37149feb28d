-- Sets of codes.
use Rattle.std.specs.Prelude.{List, ◌++◌, Option, Some, None}
use Rattle.imap_types.specs.declared.uid_set.UidRange.{UidRange}
use Rattle.imap_types.specs.declared.uid_set.UidSet.{UidSet}

abbrev pub ranges_of : Option UidSet → Option (List UidRange)
ranges_of None = None
ranges_of (Some set) = Some set.ranges

-- these ranges, and then those of the rest
abbrev pub put_ranges : List UidRange → Option (List UidRange) → Option (List UidRange)
put_ranges ranges None = None
put_ranges ranges (Some more) = Some (ranges ++ more)
