use Rattle.hb_lines.proofs.fields.put_names.Goals as goal

pub returns : goal.returns
returns c =
    rw (
      c.in_ok-put_text-8.ensures,
      c.in_ok-put_text-7.ensures,
      c.in_ok-put_text-6.ensures,
      c.in_ok-put_text-5.ensures,
      c.in_ok-put_text-4.ensures,
      c.in_ok-put_text-3.ensures,
      c.in_ok-put_text-2.ensures,
      c.in_ok-put_text.ensures,
    )
