-- What the path of a request names.
use Rattle.fab_inventory.specs.declared.holder.HolderKind.{HolderKind}
use Rattle.fab_inventory.specs.declared.holder.HolderKind.TheVariants as holder
use Rattle.fab_wire_base.specs.declared.kinds.Kind.{Kind}
use Rattle.fab_wire_base.specs.declared.kinds.Kind.TheVariants as kind
use Rattle.fab_wire_requests.specs.declared.paths.Subject.{Subject}
use Rattle.fab_wire_requests.specs.declared.paths.Subject.TheVariants as subject

-- what the path of a kind names: all but these name a host, an array, a volume, a plan, a host group or a storage group
abbrev pub subject_of : Kind → Subject
subject_of kind.Import = subject.Fabric
subject_of kind.ShowActive = subject.Fabric
subject_of kind.ShowPort = subject.Port
subject_of kind.Joined = subject.Ports
subject_of kind.ShowAlias = subject.InFabric
subject_of kind.ShowZone = subject.InFabric
subject_of kind.ShowSet = subject.InFabric
subject_of other = subject.Named

-- whether a kind that is about a host or an array is about an array
abbrev pub holder_of : Kind → HolderKind
holder_of kind.PutArray = holder.Array
holder_of kind.DropArray = holder.Array
holder_of kind.ShowArray = holder.Array
holder_of other = holder.Host
