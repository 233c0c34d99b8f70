use Rattle.std.proofs.Common.{sym, ◌∙◌, ap}
use Rattle.std.specs.Str.Iter.{chars_rest}
use Rattle.std.proofs.lemmas.Str.{IsUtf8-past_char}
use Rattle.syntect_grammar_rewrite.proofs.ReferenceLaws.{refers_on, refers-next, refers-over, refers-found, refers-past, chars-next, chars-over}
use Rattle.syntect_grammar_rewrite.proofs.references.refers_back.Goals as goal

pub loop-c-preserved : goal.loop-c-preserved
loop-c-preserved c =
    let l = c.loop-c in
    let here = sym l.invariant.value ∙ ap (refers_on l.escaped) (chars-next l.c-iterator c.next.new.self c.in-Some.c l.invariant.utf8 c.in-Some.ensures.steps.0) ∙ refers-next l.escaped c.in-Some.c _ in record {
      utf8 = IsUtf8-past_char (chars_rest l.c-iterator) (chars_rest c.next.new.self) c.in-Some.c l.invariant.utf8 c.in-Some.ensures.steps.0;
      value = refers-past _ _ _ here (sym c.is_referred.ensures ∙ c.if-is_referred.false);
    }

pub returns-then-is_referred : goal.returns-then-is_referred
returns-then-is_referred c =
    let l = c.loop-c in
    let here = sym l.invariant.value ∙ ap (refers_on l.escaped) (chars-next l.c-iterator c.next.new.self c.in-Some.c l.invariant.utf8 c.in-Some.ensures.steps.0) ∙ refers-next l.escaped c.in-Some.c _ in
    refers-found _ _ _ here (sym c.is_referred.ensures ∙ c.if-is_referred.true)

pub returns : goal.returns
returns c = sym (sym c.loop-c.invariant.value ∙ ap (refers_on c.loop-c.escaped) (chars-over c.loop-c.c-iterator c.in-None.ensures.steps.0.0) ∙ refers-over c.loop-c.escaped)
