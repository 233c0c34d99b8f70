-- Tags that are kept.
use Rattle.std.specs.Prelude.{◌≡◌, List, All, string_bytes}
use Rattle.syntect_writers.specs.Spans.{open_tag}
use Rattle.syntect_writers.specs.declared.html.IncludeBackground.{IncludeBackground}
use Rattle.syntect_writers.specs.declared.spans.Tag.{Tag}

-- ---- What invariants alone rest on ----

-- each of the texts is the tag that opens a span of its style
abbrev pub AreTags : IncludeBackground → List Tag → Type 0
AreTags bg tags = All (λ tag. string_bytes tag.text ≡ open_tag bg tag.style) tags
