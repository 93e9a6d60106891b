use Rattle.fab_program_outside.proofs.ReadLemmas.{read_of}
use Rattle.fab_program_outside.proofs.contents.bytes_of.Goals as goal

pub returns-in-Some : goal.returns-in-Some
returns-in-Some g c =
    read_of g.F.File.Read.remaining (g.F.Files.opens c.args.files.now c.args.path.now) (λ bytes. bytes.items) c.in-Some.file c.new-file.result c.read_all.new.reader c.read_all.result
    c.in-Some.ensures c.new-file.ensures.inner c.new-file.ensures.none c.read_all.ensures
