use Rattle.std.proofs.Common.{◌≡◌, ◌-◌, ◌<◌, ◌≤◌, List, arith, false, get_or, length, subst, sym, ◌∙◌}
use Rattle.syntect_grammar_limits.specs.syntect_grammar_contexts.declared.syntax_reference.SyntaxReference.{SyntaxReference}
use Rattle.syntect_grammar.specs.Finding as finding
use Rattle.syntect_grammar.specs.Link.{syntaxes_in}
use Rattle.syntect_grammar_limits.proofs.syntect_count_proofs.MeterLaws.{advances-on}
use Rattle.syntect_grammar_limits.proofs.FirstLaws.{found_on, none_on}
use Rattle.syntect_grammar_limits.proofs.first_lines.find_by_meter.Goals as goal

pub loop-left-preserved : goal.loop-left-preserved
loop-left-preserved c =
    let fits = finding.fits_line c.args.line.now in
    let xs = syntaxes_in c.args.set.now in
    let x = c.index-syntaxes-left.result in
    let at : x ≡ get_or xs (c.loop-left.left - 1) x = subst (λ (ys : List SyntaxReference). x ≡ get_or ys (c.loop-left.left - 1) x) c.syntaxes-syntaxes.ensures c.index-syntaxes-left.is in
    let no : fits x ≡ false = sym c.in-Ok-false.ensures.fits ∙ c.in-Ok-false.field-0-test in
    record {
      found = found_on fits xs c.loop-left.left x c.loop-left-test.true c.loop-left.invariant.few at no c.loop-left.invariant.found;
      none = none_on fits xs c.loop-left.left x c.loop-left-test.true c.loop-left.invariant.few at no c.loop-left.invariant.none;
      few = omega (arith, c.loop-left.invariant.few);
      advances = advances-on _ _ _ c.loop-left.invariant.advances c.fits_line.ensures.advances;
    }
