use Rattle.fab_program_looks.proofs.loading.world_of.Goals as goal

pub returns-in-Ok : goal.returns-in-Ok
returns-in-Ok g c = (
  record {
    clean = λ clean. c.load.ensures.clean clean;
    same = λ clean is_open. c.load.ensures.same clean is_open;
    stop = λ clean. c.load.ensures.stop clean;
  },
  record {
    sound = c.in-Ok.ensures.world.0;
    written = c.in-Ok.ensures.world.1;
    holds = λ clean. ((c.in-Ok.ensures.ready clean).0, c.in-Ok.ensures.rows clean);
    uncounted = c.in-Ok.ensures.uncounted;
  },
)

pub returns-in-Err : goal.returns-in-Err
returns-in-Err g c = (
  record {
    clean = λ clean. c.load.ensures.clean clean;
    same = λ clean is_open. c.load.ensures.same clean is_open;
    stop = λ clean. c.load.ensures.stop clean;
  },
  record {
    why = c.in-Err.fault;
    is = c.of_opening.ensures;
    holds = λ clean. c.in-Err.ensures.fault clean;
    counted = c.in-Err.ensures.counted;
  },
)
