use Rattle.words.proofs.write.put_natural.Goals as goal

pub returns : goal.returns
returns c =
    let d = c.decimal-places in
    record { places = d.result; fewest = d.ensures.len; wrote = rw d.ensures.digits at c.put_text.ensures }
