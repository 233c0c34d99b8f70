-- A buffer without lines.
use Rattle.std.proofs.Common.{◌≡◌, List, [], Some, None, length, map, sym, ap, subst, ◌∙◌, string_bytes, String, Global}
use Rattle.syntect_buffer.specs.syntect_theme.declared.theme.Theme.{Theme}
use Rattle.syntect_buffer.specs.syntect_parsing.States.{standing}
use Rattle.syntect_buffer.specs.syntect_grammar_contexts.declared.syntax_reference.SyntaxReference.{SyntaxReference}
use Rattle.syntect_buffer.specs.syntect_grammar.declared.syntax_set.SyntaxSet.{SyntaxSet}
use Rattle.syntect_buffer.specs.syntect_grammar.declared.error.Error.TheVariants as error
use Rattle.syntect_buffer.specs.syntect_easy.Leads.{Leads, LacksStart, styles_of, reader_of}
use Rattle.syntect_buffer.specs.syntect_easy.declared.easy.HighlightLines.{HighlightLines}
use Rattle.syntect_buffer.specs.Kept.{AllTell, AreMarked, AreReadFrom, IsKept, lines_in}
use Rattle.syntect_buffer.specs.declared.reading.Reading.{Reading}
use Rattle.syntect_buffer.specs.declared.reading.Kept.{Kept}

-- if memory runs out for a buffer, it runs out after the start
pub start_there : (set : SyntaxSet) (theme : Theme) (syntax : SyntaxReference) (h : HighlightLines) → Leads set theme syntax [] [] h → LacksStart syntax error.Memory
start_there set theme syntax h leads = λ n. let k : Some leads.start ≡ None = sym leads.begins ∙ n in cc

pub kept_none : (set : SyntaxSet) (theme : Theme) (syntax : SyntaxReference) (h : HighlightLines) (kept : Kept) → ((s : SyntaxSet) → Leads s theme syntax [] [] h)
    → kept.start.styles ≡ styles_of h → kept.start.reader ≡ reader_of h → kept.lines ≡ [] → kept.readings ≡ [] → IsKept set theme syntax kept
kept_none set theme syntax h kept leads s r l n = record {
  count = ap (λ (xs : List (String Global)). length (map string_bytes xs)) l ∙ sym (ap length n);
  marked = subst (λ (rs : List Reading). AreMarked kept.start rs) (sym n) tt;
  told = subst (λ (rs : List Reading). AllTell kept.limits rs) (sym n) tt;
  starts = λ definitions b. record {
    holder = h;
    is_past = record { built = b; leads = leads set };
    styles = sym s;
    reader = ap standing (sym r);
  };
  read = λ definitions b.
      subst (λ (rs : List Reading). AreReadFrom set theme kept.start (lines_in kept) rs) (sym n)
      (subst (λ (xs : List (String Global)). AreReadFrom set theme kept.start (map string_bytes xs) []) (sym l) tt);
}
