use Rattle.code_text.proofs.file.print_c.Goals as goal

pub returns : goal.returns
returns c = record {
  built = c.in_ok-built.built;
  is_built = c.in_ok-built.ensures;
  text_is = c.in_ok-text.ensures;
}
