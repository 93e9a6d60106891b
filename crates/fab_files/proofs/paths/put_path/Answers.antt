use Rattle.fab_files.specs.PathLists.{path_line}
use Rattle.fab_files.proofs.paths.put_path.Goals as goal

pub returns : goal.returns
unfolding path_line
returns g c =
    rw (c.as_bytes.ensures.value, c.as_str.ensures, c.as_bytes-2.ensures.text, c.letters.ensures, c.letters-2.ensures, c.as_bytes-3.ensures.text, c.as_bytes-4.ensures.value, c.format.ensures.text) at c.put_fields.ensures
