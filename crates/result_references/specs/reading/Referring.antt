-- References and values on the way, for private clauses.
use Rattle.serde_json.specs.View.{view}
use Rattle.result_references.specs.References.{Reference as ReferenceData, Source as SourceData}
use Rattle.result_references.specs.reading.Reaching.{segments_in}
use Rattle.result_references.specs.declared.sources.Reference.{Reference}
use Rattle.result_references.specs.declared.sources.Source.{Source}

abbrev pub reference_data : Reference → ReferenceData
reference_data reference = record { result_of = reference.result_of.now; name = reference.name.now; path = reference.path.now }

abbrev pub source_data : Source → SourceData
source_data source = record { arguments = view source.arguments.now; segments = segments_in source.path.now }
