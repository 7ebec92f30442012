-- From the decoding of a source that writes nothing to its counts.
use Rattle.std.proofs.Common.{◌≡◌, ℕ, ◌+◌, Bool, List, length, Result, Ok, Err, refl, sym, ◌∙◌, ap, arith}
use Rattle.jl_base.specs.Sources.{Told}
use Rattle.jl_base.specs.Terms.{Item}
use Rattle.jl_rows.specs.Decoder.{decode}
use Rattle.jl_rows.specs.Files.{frames}
use Rattle.jl_lines.specs.Counts.{namespaces, none_counted, statements, with_counted}
use Rattle.jl_lines.specs.Giving.{Outlet}
use Rattle.jl_lines.specs.declared.decoding.Counts.{Counts}
use Rattle.jl_lines.specs.declared.writing.Writing.TheVariants as writings
use Rattle.jl_windows.specs.Counted.{CountsSource}
use Rattle.jl_windows.specs.Sources.{file_of}
use Rattle.jl_windows.specs.Streams.{DecodesSource}
use Rattle.jl_windows.specs.declared.stopped.Stopped.{Stopped}
use Rattle.jl_windows.specs.declared.stopped.Stopped.TheVariants as stopped
use Rattle.jl_windows.specs.declared.stopped.Streamed.{Streamed}

same_streamed : (s : Streamed) (f : ℕ) (c : Counts) → s.frames ≡ f → s.counts ≡ c → s ≡ record { frames = f; counts = c }
same_streamed s f c p q = ap (λ (x : ℕ). record { frames = x; counts = s.counts }) p ∙ ap (λ (x : Counts). record { frames = f; counts = x }) q

none_with : (items : List Item) → with_counted none_counted items ≡ record { statements = statements items; namespaces = namespaces items }
none_with items =
    let p : 0 + statements items ≡ statements items = omega arith in
    let q : 0 + namespaces items ≡ namespaces items = omega arith in
    rw (p, q) refl

pub counts_source : (strict : Bool) (before after : Told) (limit left size : ℕ) (k : Outlet) (answer : Result Streamed Stopped) → k.faults ≡ 0 → DecodesSource writings.Nothing strict before after limit left size k k answer
    → CountsSource strict before after limit left answer
counts_source strict before after limit left size k (Ok s) none x = record {
  read = x.read;
  reads = x.reads;
  cause = record {
    fault = x.cause.fault;
    tally = same_streamed s (length (frames (file_of x.read after)).items) _ x.cause.frames (sym x.cause.counts ∙ none_with (decode strict (file_of x.read after)).items);
    ends = x.cause.ends;
    counted = x.cause.counted;
    steady = x.cause.steady.0;
  };
}
counts_source strict before after limit left size k (Err (stopped.Malformed fault)) none x = record { read = x.read; reads = x.reads; cause = (x.cause.fault, x.cause.counted, x.cause.steady.0) }
counts_source strict before after limit left size k (Err stopped.ReadFault) none x = record { read = x.read; reads = x.reads; cause = (x.cause.0, x.cause.2) }
counts_source strict before after limit left size k (Err stopped.TooLong) none x = record { read = x.read; reads = x.reads; cause = (x.cause.0, x.cause.1, x.cause.2) }
counts_source strict before after limit left size k (Err stopped.WriteFault) none x = absurd (let rose = x.cause.0.0 in omega (arith, rose, none))
counts_source strict before after limit left size k (Err stopped.NoMemory) none x = record { read = x.read; reads = x.reads; cause = (x.cause.0, x.cause.1) }
