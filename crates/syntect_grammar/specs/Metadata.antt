-- The metadata of a set, and of a builder.
use Rattle.std.specs.Prelude.{◌≡◌, ℕ, List}
use Rattle.syntect_metadata.specs.Sets.{IsOfEntries, merged_sets}
use Rattle.syntect_metadata.specs.declared.raw.RawMetadataEntry.{RawMetadataEntry}
use Rattle.syntect_metadata.specs.declared.set.MetadataSet.{MetadataSet}
use Rattle.syntect_grammar.specs.declared.syntax_set.SyntaxSet.{SyntaxSet}
use Rattle.syntect_grammar.specs.declared.syntax_set.SyntaxSetBuilder.{SyntaxSetBuilder}

-- the sets of metadata that a set has
abbrev pub metadata_in : SyntaxSet → List MetadataSet
metadata_in set = set.metadata.scoped_metadata

-- the entries of files that a builder holds
abbrev pub entries_in : SyntaxSetBuilder → List RawMetadataEntry
entries_in builder = builder.raw_metadata.loaded

-- the metadata of the set that a builder was made of
abbrev pub kept_sets : SyntaxSetBuilder → List MetadataSet
kept_sets builder = builder.metadata.scoped_metadata

-- What is kept and the sets of the entries, in the order of scope texts, a new one in place of an
-- old one of the same text. The sets are read with a repository that becomes another one.
abbrev pub IsMergedOf : List (List ℕ) → SyntaxSetBuilder → List (List ℕ) → List MetadataSet → Type 0
IsMergedOf old builder new sets =
    (fresh : List MetadataSet) × IsOfEntries old (entries_in builder) new fresh
    × (sets ≡ merged_sets (kept_sets builder) fresh)
