-- What an open stopper owns is a flag, which may cross threads, and the right to give its memory back anywhere.
use mir.Raw.{raw}
use base.Shift.{Keyless}
use denote.Memory.{lone}
use denote.RawPtr.{Ptr}
use denote.Struct.Struct.{exits_of}
use denote.Struct.Owning.{shape, fields, to}
use denote.Param.Send.{IsSend, AllSend, owning_send, struct_send, sendable}
use Rattle.std.proofs.Crossing as heap
use Rattle.std.specs.declared.option.Option.{Option}
use Rattle.std.specs.declared.option.Option.TheVariants.{None, Some}
use Rattle.std.specs.Global.{Global}
use Rattle.std_alloc.proofs.SendSync.{quiet, lies}
use Rattle.std_heap.proofs.Global.TheSendSync as handle
use Rattle.teco_ffi.specs.Handle.{holds}
use Rattle.teco_ffi.specs.Stopper.{SeenFlag}
use Rattle.teco_ffi.specs.contracts.flag.Flag as Home
use Rattle.teco_ffi.proofs.flag.Flag.TheSendSync.{the_send as home}
use Rattle.teco_ffi.specs.contracts.stopper.Stopper.{the_row, the_type}

held : (alloc : Global) (p : Ptr) (flag : Option SeenFlag) → Keyless (holds Home.the_row alloc p flag)
held alloc p None = λ _. tt
held alloc p (Some x) = (lies Home.the_row home p x, heap.frees.frees alloc (raw (lone Home.the_row.mir)) p)

pub send : IsSend the_row
send =
    let all : AllSend (fields the_type) = (search sendable, (handle.the_field_send, tt)) in
    owning_send the_type all (λ d. held d.alloc d.at d.value)
    (λ k. quiet (to the_type) (exits_of k (fields the_type)) ((struct_send (shape the_type) all).leaving k))
