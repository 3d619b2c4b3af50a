pub mod StdOut
pub mod RealLink
pub mod StdFiles
pub mod TcpDial
pub mod TcpDoor
