use Rattle.syntect_c.proofs.document.first_states.Goals as goal

pub returns : goal.returns
returns c = record {
  syntax = c.in_ok-syntax.syntax.now;
  style = c.in_ok-theme.theme.now;
  h = c.in_ok-lines.lines;
  language_is = c.in_ok-syntax.ensures.found;
  theme_is = c.in_ok-theme.ensures.found;
  leads = λ set. c.in_ok-lines.ensures.leads set;
  holds = c.states_of.ensures;
}
