-- What the code knows of an Email.
use Rattle.std.specs.Option.{option_copied}
use Rattle.email_objects.specs.Facts.{FactsData}
use Rattle.email_objects.specs.declared.facts.Facts.{Facts}

-- what the code's facts are
abbrev pub facts_data : Facts → FactsData
facts_data e = record { row = option_copied e.row; blob_id = option_copied e.blob_id; size = e.size; fields = e.fields }
