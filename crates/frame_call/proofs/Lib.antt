pub mod FrameReady
