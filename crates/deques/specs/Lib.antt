pub mod Deque
