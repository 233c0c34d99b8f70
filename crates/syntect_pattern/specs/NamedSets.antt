-- The sets that have names.
use Rattle.ucd_category.specs.declared.GeneralCategoryGroup.TheVariants.{Letter, Number}
use Rattle.syntect_pattern.specs.Sets.{Set, range, category, categories, word, space, either, hex_digit}
use Rattle.syntect_pattern.specs.declared.named.Named.{Named}

-- the set that has this name
abbrev pub set_of_named : Named → Set
set_of_named (Named.Category k) = category k
set_of_named (Named.Categories k) = categories k
set_of_named Named.Word = word
set_of_named Named.Space = space
set_of_named Named.HexDigit = hex_digit
set_of_named Named.LetterOrNumber = either (categories Letter) (categories Number)
set_of_named Named.Blank = either (range 0x20 0x20) (range 0x09 0x09)
set_of_named Named.Ascii = range 0x00 0x7F
