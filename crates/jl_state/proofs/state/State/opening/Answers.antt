use Rattle.std.proofs.Common.{arith}
use Rattle.jl_state.proofs.Slots.{sound_in}
use Rattle.jl_state.proofs.state.State.opening.Goals as goal

pub returns-clause-lawful : goal.returns-clause-lawful
returns-clause-lawful c =
    let names = c.in_ok-names.ensures in
    let prefixes = c.in_ok-prefixes.ensures in
    let datatypes = c.in_ok-datatypes.ensures in
    let bytes = c.args.bytes.now in
    record {
      options = c.requires.inside;
      tables = record {
        names = sound_in c.args.options.now.names _ bytes names;
        prefixes = sound_in c.args.options.now.prefixes _ bytes prefixes;
        datatypes = sound_in c.args.options.now.datatypes _ bytes datatypes;
        few = omega (arith, names.0, c.requires.names);
      };
      prefixes = omega (arith, prefixes.0, c.requires.prefixes);
      datatypes = omega (arith, datatypes.0, c.requires.datatypes);
      name_entry = omega arith;
      prefix_entry = omega arith;
      datatype_entry = omega arith;
      last = omega arith;
      subject = tt;
      predicate = tt;
      object = tt;
      graph = tt;
      open_graph = tt;
    }
